-- Where an entry changes the frames of one chunk's pieces alone, looking that chunk up anew is enough.
use Rattle.std.proofs.Common.{◌≡◌, ◌≢◌, ◌<◌, ◌∷◌, [], ◌==◌, ◌&&◌, ℕ, Bool, true, false, if◌then◌else◌, List, length, map, get_or, Option, Some, refl, sym, ◌∙◌, ap, subst, arith, inl, inr}
use Rattle.std.specs.List.{list_all, AllByRecursion}
use Rattle.std.proofs.lemmas.Bool.{cases_eq}
use Rattle.scan_story.specs.declared.entry.Entry.{Entry}
use Rattle.scan_story.specs.declared.entry.Entry.TheVariants.{Evict, Filled}
use Rattle.scan_story.specs.declared.setting.Setting.{Setting}
use Rattle.scan_story.specs.Counting.{has, is_number}
use Rattle.scan_story.specs.Setting.{IsSetting, groups_read, piece_at, chunk_of}
use Rattle.scan_story.specs.Views.{History, piece_in, is_framed, is_wholly_framed, needs_chunk, is_available}
use Rattle.scan_story.specs.MayFollow.{MayFilled}
use Rattle.scan_story.proofs.Chunks.{evict_keeps}
use Rattle.chunk_interest.specs.declared.frame.Frame.{Frame}
use Rattle.chunk_interest.specs.declared.client.Client.{Client}
use Rattle.chunk_interest.specs.Frames.{missing_in}
use Rattle.chunk_interest.specs.Clients.{IsClient, AreClients, IsReady, AreReady, Spares, vacant}
use Rattle.chunk_interest.specs.Buffers.{AreFrames}
use Rattle.chunk_interest.specs.Renewed.{IsRenewed}
use Rattle.chunk_interest.proofs.Below.{any_same, same_number, equal_number, other_number}
use Rattle.chunk_interest.proofs.Needs.{groups_rise, piece_chunk}
use Rattle.chunk_interest.proofs.Kept.{Keeps, filled_empty}
use Rattle.chunk_interest.proofs.Following.{needs_on}
use Rattle.chunk_interest.proofs.Counting.{missing_is, whole_is}

-- the entry leaves the pieces of all other chunks where they were
abbrev pub LeavesOthers : Setting → Entry → History → ℕ → Type 0
LeavesOthers s e h c = (p : ℕ) → chunk_of s p ≢ c → is_framed s (e ∷ h) p ≡ is_framed s h p

pub evict_leaves : (s : Setting) (h : History) (w c : ℕ) → LeavesOthers s (Evict w c) h c
evict_leaves s h w c = λ p ne. evict_keeps s h w c p ne

pub filled_leaves : (s : Setting) (h : History) (w f p c : ℕ) → MayFilled s h w f p → Keeps s h → chunk_of s p ≡ c → LeavesOthers s (Filled w f p) h c
filled_leaves s h w f p c may k of = λ x ne.
    any_same (λ g. is_number x (piece_in s (Filled w f p ∷ h) g)) (λ g. is_number x (piece_in s h g)) s.frames
    (λ g lt. at_frame (f == g) x g refl (λ e. ne (ap (chunk_of s) (sym e) ∙ of)))
  where
    at_frame : (t : Bool) (x g : ℕ) → (f == g) ≡ t → (p ≡ x → ⊥) → is_number x (if t then Some p else piece_in s h g) ≡ is_number x (piece_in s h g)
    at_frame true x g at ne = other_number p x ne ∙ sym (ap (is_number x) (ap (piece_in s h) (sym (same_number f g at)) ∙ filled_empty s h w f p may k))
    at_frame false x g at ne = refl

-- the chunks that no entry of this kind touches stay as they were
whole_pieces : (s : Setting) (e : Entry) (h : History) (c x : ℕ) (gs : List ℕ) → LeavesOthers s e h c → x ≢ c → AllByRecursion (λ (g : ℕ). g < s.groups) gs
    → list_all (is_framed s (e ∷ h)) (map (piece_at s x) gs) ≡ list_all (is_framed s h) (map (piece_at s x) gs)
whole_pieces s e h c x [] leaves ne below = refl
whole_pieces s e h c x (g ∷ gs) leaves ne below =
    ap (λ (b : Bool). b && list_all (is_framed s (e ∷ h)) (map (piece_at s x) gs)) (leaves (piece_at s x g) (λ of. ne (sym (piece_chunk s x g below.0) ∙ of)))
    ∙ ap (λ (b : Bool). is_framed s h (piece_at s x g) && b) (whole_pieces s e h c x gs leaves ne below.1)

pub whole_elsewhere : (s : Setting) (e : Entry) (h : History) (c q x : ℕ) → IsSetting s → LeavesOthers s e h c → x ≢ c → is_wholly_framed s (e ∷ h) q x ≡ is_wholly_framed s h q x
whole_elsewhere s e h c q x ok leaves ne = whole_pieces s e h c x (groups_read s q) leaves ne (groups_rise s q ok).1

renewed_ready : (s : Setting) (e : Entry) (h : History) (c q n : ℕ) (fs : List Frame) (ps bs : List (Option ℕ)) (old new : Client) → IsSetting s → LeavesOthers s e h c → Spares q e → c < 1024
    → AreFrames s (e ∷ h) n fs ps bs → IsClient s h q old → IsReady s h q old → IsRenewed ps n c old new → IsReady s (e ∷ h) q new
renewed_ready s e h c q n fs ps bs old new ok leaves spares small are is ready renewed = λ x. renewed.available x ∙ (elim (cases_eq x c) [
  | inl at ↦
      ap (λ (b : Bool). if b then has old.remaining c && missing_in ps n old.reads c == 0 else has old.available x) (equal_number x c at)
      ∙ (ap (λ (b : Bool). b && missing_in ps n old.reads c == 0) (is.remaining c ∙ sym (needs_on s e h q c spares))
      ∙ (ap (λ (k : ℕ). needs_chunk s (e ∷ h) q c && k == 0) (missing_is s (e ∷ h) n fs ps bs q c old.reads ok are small is.reads)
      ∙ (ap (λ (b : Bool). needs_chunk s (e ∷ h) q c && b) (sym (whole_is s (e ∷ h) q c)) ∙ ap (is_available s (e ∷ h) q) (sym at))))
  | inr ne ↦
      ap (λ (b : Bool). if b then has old.remaining c && missing_in ps n old.reads c == 0 else has old.available x) (other_number x c ne)
      ∙ (ready x ∙ sym (ap (λ (b : Bool). b && is_wholly_framed s (e ∷ h) q x) (needs_on s e h q x spares) ∙ ap (λ (b : Bool). needs_chunk s h q x && b) (whole_elsewhere s e h c q x ok leaves ne)))
])

pub all_renewed_ready : (s : Setting) (e : Entry) (h : History) (c n : ℕ) (fs : List Frame) (ps bs : List (Option ℕ)) (old new : List Client) → IsSetting s → LeavesOthers s e h c → ((q : ℕ) → Spares q e) → c < 1024
    → AreFrames s (e ∷ h) n fs ps bs → length new ≡ length old → ((q : ℕ) → q < length old → IsRenewed ps n c (get_or old q vacant) (get_or new q vacant)) → AreClients s h old → AreReady s h old → AreReady s (e ∷ h) new
all_renewed_ready s e h c n fs ps bs old new ok leaves spares small are size renewed clients ready = λ q lt.
    (let inside : q < length old = omega (arith, lt, size) in
    renewed_ready s e h c q n fs ps bs (get_or old q vacant) (get_or new q vacant) ok leaves (spares q) small are (clients q inside) (ready q inside) (renewed q inside))

-- all else that a client keeps is as it was
renewed_client : (s : Setting) (h : History) (q n c : ℕ) (ps : List (Option ℕ)) (old new : Client) → IsRenewed ps n c old new → IsClient s h q old → IsClient s h q new
renewed_client s h q n c ps old new renewed is = subst (IsClient s h q) (sym renewed.kept) (record {
  worker = is.worker;
  columns = is.columns;
  reads = is.reads;
  phase = is.phase;
  remaining = is.remaining;
  began = is.began;
})

pub all_renewed : (s : Setting) (h : History) (n c : ℕ) (ps : List (Option ℕ)) (old new : List Client) → length new ≡ length old
    → ((q : ℕ) → q < length old → IsRenewed ps n c (get_or old q vacant) (get_or new q vacant)) → AreClients s h old → AreClients s h new
all_renewed s h n c ps old new size renewed clients = λ q lt.
    (let inside : q < length old = omega (arith, lt, size) in
    renewed_client s h q n c ps (get_or old q vacant) (get_or new q vacant) (renewed q inside) (clients q inside))
