-- No chunk that is held is evicted, none of its frames filled, and its pieces stay.
use Rattle.std.proofs.Common.{◌≡◌, ◌∷◌, [], ◌++◌, ◌==◌, ℕ, false, None, Some, sym, ◌∙◌, ap, subst}
use Rattle.std.specs.List.{list_any}
use Rattle.scan_story.specs.declared.entry.Entry.{Entry}
use Rattle.scan_story.specs.declared.entry.Entry.TheVariants.{Deliver, End, Evict, Failed, Fill, Filled, Plan, Register, Release, Stop}
use Rattle.scan_story.specs.declared.setting.Setting.{Setting}
use Rattle.scan_story.specs.Legal.{Legal}
use Rattle.scan_story.specs.MayFollow.{Allowed}
use Rattle.scan_story.specs.Setting.{IsSetting, chunk_of}
use Rattle.scan_story.specs.Views.{History, held_by, is_held, piece_in}
use Rattle.scan_story.specs.Whole.{Undisturbed, had_piece, has_taken}
use Rattle.story_laws.specs.Frames.{HeldPiecesStay, HoldersAreWorkers, releases_by}
use Rattle.story_laws.proofs.Bools.{if_not, none_some, or_false, self_number, unequal}
use Rattle.story_laws.proofs.Grouped.{Grouped}
use Rattle.story_laws.proofs.Holds.{Holding, holding, kept_hold, new_hold, not_held, not_idle, old_hold}
use Rattle.story_laws.proofs.Proper.{Sound, filling, sound, victim}
use Rattle.story_laws.proofs.Standing.{evict_leaves, fill_leaves, filled_leaves, free_empty}

untaken : (s : Setting) (h : History) (v c : ℕ) → Holding s h → is_held s h c ≡ false → has_taken h v c ≡ false
untaken s h v c k none = if_not (has_taken h v c) (λ t. (let x = k.taken v c t in unequal x.hold.chunk c (not_held s h v c x.hold k.holder none x.held) x.chunk))

pub pieceless : (s : Setting) (h : History) (v f : ℕ) → Holding s h → piece_in s h f ≡ None → had_piece s h v f ≡ false
pieceless s h v f k none = if_not (had_piece s h v f) (λ t. (let x = k.had v f t in none_some x.piece (sym none ∙ x.stands)))

pub undisturbed : (s : Setting) (h : History) → IsSetting s → Grouped s → Legal s h → Undisturbed s h
undisturbed s [] m g legal = tt
undisturbed s (Evict w c ∷ h) m g legal =
    (λ v lt. untaken s h v c (holding s h m g legal.2) (let may = legal.0 in (victim s h c may.victim).not_held), undisturbed s h m g legal.2)
undisturbed s (Fill w f p ∷ h) m g legal =
    (λ v lt. pieceless s h v f (holding s h m g legal.2) (let may = legal.0 in free_empty s h f may.free), undisturbed s h m g legal.2)
undisturbed s (Register w q ∷ h) m g legal = undisturbed s h m g legal.2
undisturbed s (Plan w q c ∷ h) m g legal = undisturbed s h m g legal.2
undisturbed s (Filled w f p ∷ h) m g legal = undisturbed s h m g legal.2
undisturbed s (Failed w q p why ∷ h) m g legal = undisturbed s h m g legal.2
undisturbed s (Deliver w q c ∷ h) m g legal = undisturbed s h m g legal.2
undisturbed s (Release w q c ∷ h) m g legal = undisturbed s h m g legal.2
undisturbed s (Stop w q ∷ h) m g legal = undisturbed s h m g legal.2
undisturbed s (End w q ∷ h) m g legal = undisturbed s h m g legal.2

-- As long as the worker doesn't release, it holds the chunk, and the pieces stay

record Stays (s : Setting) (h before : History) (w q c : ℕ) : Type 0 where
  held : held_by h w ≡ Some (record { query = q; chunk = c })
  stands : (f p : ℕ) → piece_in s before f ≡ Some p → chunk_of s p ≡ c → piece_in s h f ≡ Some p

stays_next : (s : Setting) (h before : History) (e : Entry) (w q c : ℕ) → Sound s h → HoldersAreWorkers s h → Allowed s h e → releases_by w e ≡ false → Stays s h before w q c → Stays s (e ∷ h) before w q c
stays_next s h before (Deliver v r d) w q c k on may off y = record {
  held = old_hold h v r d w (if_not (v == w) (λ t. not_idle h v w (record { query = q; chunk = c }) may.idle.holds_nothing t y.held)) ∙ y.held;
  stands = y.stands;
}
stays_next s h before (Release v r d) w q c k on may off y = record { held = kept_hold h v r d w off ∙ y.held; stands = y.stands }
stays_next s h before (Evict v d) w q c k on may off y = record {
  held = y.held;
  stands = λ f p e of. evict_leaves s h v d f p (ap (λ x. x == d) of ∙ not_held s h w d (record { query = q; chunk = c }) on (victim s h d may.victim).not_held y.held) (y.stands f p e of);
}
stays_next s h before (Fill v g x) w q c k on may off y = record {
  held = y.held;
  stands = λ f p e of. fill_leaves s h v g x (free_empty s h g may.free) f p (y.stands f p e of);
}
stays_next s h before (Filled v g x) w q c k on may off y = record {
  held = y.held;
  stands = λ f p e of. filled_leaves s h v g x (filling s h v g x may (k.load may.load may.is_load.underway)).empty f p (y.stands f p e of);
}
stays_next s h before (Register v r) w q c k on may off y = record { held = y.held; stands = y.stands }
stays_next s h before (Plan v r d) w q c k on may off y = record { held = y.held; stands = y.stands }
stays_next s h before (Failed v r x why) w q c k on may off y = record { held = y.held; stands = y.stands }
stays_next s h before (Stop v r) w q c k on may off y = record { held = y.held; stands = y.stands }
stays_next s h before (End v r) w q c k on may off y = record { held = y.held; stands = y.stands }

stays : (s : Setting) (later before : History) (w q c : ℕ) → IsSetting s → Grouped s → Legal s (later ++ Deliver w q c ∷ before) → list_any (releases_by w) later ≡ false
    → Stays s (later ++ Deliver w q c ∷ before) before w q c
stays s [] before w q c m g legal off = record { held = new_hold before w q c w (self_number w); stands = λ f p e of. e }
stays s (e ∷ later) before w q c m g legal off =
    let o = or_false (releases_by w e) (list_any (releases_by w) later) off in
    let h = later ++ Deliver w q c ∷ before in
    stays_next s h before e w q c (sound s h g legal.2) (holding s h m g legal.2).holder legal.0 o.0 (stays s later before w q c m g legal.2 o.1)

pub held_pieces : (s : Setting) (h : History) → IsSetting s → Grouped s → Legal s h → HeldPiecesStay s h
held_pieces s h m g legal w q c later before e off f p stands of =
    let k = later ++ Deliver w q c ∷ before in
    let P : History → Type 0 = λ x. piece_in s x f ≡ Some p in
    subst P (sym e) ((stays s later before w q c m g (subst (Legal s) e legal) off).stands f p stands of)
