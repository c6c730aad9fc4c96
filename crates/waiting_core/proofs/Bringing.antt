-- What an entry brings to a query, and to which it speaks.
use Rattle.std.proofs.Common.{◌≡◌, ◌∷◌, ◌&&◌, ◌||◌, not, true, false, ℕ, Bool, refl}
use Rattle.std.specs.List.{list_any}
use Rattle.scan_story.specs.declared.entry.Entry.{Entry}
use Rattle.scan_story.specs.declared.entry.Entry.TheVariants.{Deliver, End, Evict, Failed, Fill, Filled, Plan, Register, Release, Stop}
use Rattle.scan_story.specs.declared.setting.Setting.{Setting}
use Rattle.scan_story.specs.Setting.{asks_for}
use Rattle.scan_story.specs.Views.{History, delivers, ends, is_active, is_available, is_ended, is_framed, is_registered, is_stopped, is_wholly_framed, registers, stops}
use Rattle.story_laws.proofs.Bools.{not_both, or_false}
use Rattle.story_laws.proofs.Counts.{count_mono}
use Rattle.story_laws.proofs.Proper.{evict_less}
use Rattle.story_laws.proofs.Standing.{fill_brings_none, framed_more, whole_more}
use Rattle.waiting_core.specs.Turns.{LoadsAloneBringChunks, OthersStayActive, is_filled}

-- a frame has after the entry only what it had
framed_before : (s : Setting) (h : History) (e : Entry) (p : ℕ) → is_filled e ≡ false → is_framed s (e ∷ h) p ≡ true → is_framed s h p ≡ true
framed_before s h (Register w q) p off e = e
framed_before s h (Plan w q c) p off e = e
framed_before s h (Evict w c) p off e = evict_less s h w c p e
framed_before s h (Fill w f x) p off e = framed_more s (Fill w f x ∷ h) h (λ g y lt z. fill_brings_none s h w f x g y z) p e
framed_before s h (Filled w f x) p off e = absurd (not_both true refl off)
framed_before s h (Failed w q x why) p off e = e
framed_before s h (Deliver w q c) p off e = e
framed_before s h (Release w q c) p off e = e
framed_before s h (Stop w q) p off e = e
framed_before s h (End w q) p off e = e

-- what needs a chunk with more stops, ends and deliveries needs it with fewer
drops : (k x t y e z d a b : Bool) → (a ≡ true → b ≡ true) → ((k && not (x || t) && not (y || e) && not (z || d)) && a) ≡ true → ((k && not t && not e && not d) && b) ≡ true
drops false x t y e z d a b f p = absurd (not_both false p refl)
drops true true t y e z d a b f p = absurd (not_both false p refl)
drops true false true y e z d a b f p = absurd (not_both false p refl)
drops true false false true e z d a b f p = absurd (not_both false p refl)
drops true false false false true z d a b f p = absurd (not_both false p refl)
drops true false false false false true d a b f p = absurd (not_both false p refl)
drops true false false false false false true a b f p = absurd (not_both false p refl)
drops true false false false false false false a b f p = f p

pub loads_alone : LoadsAloneBringChunks
loads_alone s h e q off = count_mono (is_available s (e ∷ h) q) (is_available s h q) s.chunks
    (λ c lt. drops (asks_for s q c) (stops q e) (is_stopped h q) (ends q e) (is_ended h q) (delivers q c e) (list_any (delivers q c) h) (is_wholly_framed s (e ∷ h) q c) (is_wholly_framed s h q c)
    (whole_more s (e ∷ h) h q c (λ p m. framed_before s h e p off)))

pub others_stay : OthersStayActive
others_stay h e q off =
    let a = or_false (registers q e) (stops q e || ends q e) off in
    let b = or_false (stops q e) (ends q e) a.1 in
    by (registers q e) (stops q e) (ends q e) a.0 b.0 b.1
  where
    by : (x y z : Bool) → x ≡ false → y ≡ false → z ≡ false → ((x || is_registered h q) && not (y || is_stopped h q) && not (z || is_ended h q)) ≡ is_active h q
    by x y z e f g = rw (e, f, g) refl
