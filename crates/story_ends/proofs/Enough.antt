-- Once a load has begun a fill, the free frames suffice for the pieces that it hasn't begun.
use Rattle.std.proofs.Common.{◌≡◌, ◌≤◌, ◌+◌, ◌∷◌, [], ◌==◌, ◌⊎◌, not, ℕ, false, length, Some, is_none, refl, sym, ◌∙◌, ap, subst, arith, inl, inr}
use Rattle.std.specs.Option.{option_map}
use Rattle.std.specs.List.{list_any}
use Rattle.scan_story.specs.declared.entry.Entry.{Entry}
use Rattle.scan_story.specs.declared.entry.Entry.TheVariants.{Deliver, End, Evict, Failed, Fill, Filled, Plan, Register, Release, Stop}
use Rattle.scan_story.specs.declared.setting.Setting.{Setting}
use Rattle.scan_story.specs.declared.view.Load.{Load}
use Rattle.scan_story.specs.Counting.{count_among}
use Rattle.scan_story.specs.Legal.{Legal}
use Rattle.scan_story.specs.Loads.{begin_fill, begins, end_fill, fills_frame, free_frames, is_free, missing_pieces, underway}
use Rattle.scan_story.specs.MayFollow.{Allowed, MayEvict, MayFill, MayFilled}
use Rattle.scan_story.specs.Views.{History, piece_in}
use Rattle.scan_story.proofs.Counts.{among_within}
use Rattle.story_laws.proofs.Bools.{and_both, both_and, if_not, if_other, none_some, not_both, not_false, same_number, same_some}
use Rattle.story_laws.proofs.Counts.{count_mono}
use Rattle.story_laws.proofs.Evicting.{fill_takes}
use Rattle.story_laws.proofs.Filling.{drops}
use Rattle.story_laws.proofs.Proper.{begins_frame, filled_load, planned}

-- The pieces of a load that it hasn't begun

abbrev pub unbegun : Load → ℕ
unbegun l = count_among (λ p. not (begins l p)) l.missing

pub record IsEnough (s : Setting) (h : History) (l : Load) : Type 0 where
  pub room : (l.begun ≡ []) ⊎ (length l.missing ≤ free_frames s h + length l.begun)
  pub few : length l.begun + unbegun l ≤ length l.missing

abbrev pub Enough : Setting → History → Type 0
Enough s h = (l : Load) → underway s h ≡ Some l → IsEnough s h l

enough_plan : (s : Setting) (h : History) (w q c : ℕ) → Enough s (Plan w q c ∷ h)
enough_plan s h w q c l u =
    subst (IsEnough s (Plan w q c ∷ h)) (same_some (planned s h w q c) l u)
    (record { room = inl refl; few = omega (arith, among_within (λ p. not (begins (planned s h w q c) p)) (missing_pieces s h q c)) })

enough_evict : (s : Setting) (h : History) (w c : ℕ) → MayEvict s h w c → Enough s h → Enough s (Evict w c ∷ h)
enough_evict s h w c may k l u = record {
  room = inl (ap (λ (x : Load). x.begun) (same_some l may.load (sym u ∙ may.is_load.underway)) ∙ may.none_begun);
  few = (k l u).few;
}

enough_fill : (s : Setting) (h : History) (w f p : ℕ) → MayFill s h w f p → Enough s h → Enough s (Fill w f p ∷ h)
enough_fill s h w f p may k l u =
    subst (IsEnough s (Fill w f p ∷ h))
    (same_some (begin_fill f p may.load) l (sym (ap (option_map (begin_fill f p)) may.is_load.underway) ∙ u))
    (record {
      room = inr (let a = may.enough in let b = fill_takes s h w f p may in omega (arith, a, b));
      few = (
          let a = (k may.load may.is_load.underway).few in
          let b = drops (begins may.load) may.load.missing p may.piece may.not_begun in
          omega (arith, a, b));
    })

-- a Filled leaves each free frame free, where its load goes on
filled_frees : (s : Setting) (h : History) (w f p : ℕ) → (may : MayFilled s h w f p) → (l : Load)
    → underway s (Filled w f p ∷ h) ≡ Some l → free_frames s h ≤ free_frames s (Filled w f p ∷ h)
filled_frees s h w f p may l u = count_mono (is_free s h) (is_free s (Filled w f p ∷ h)) s.frames (λ g lt e. (
    let o = and_both (is_none (piece_in s h g)) (not (fills_frame g (underway s h))) e in
    let before : fills_frame g (underway s h) ≡ list_any (λ b. b.0 == g) may.load.begun =
    ap (fills_frame g) may.is_load.underway in
    let off : list_any (λ b. b.0 == g) may.load.begun ≡ false =
    sym before ∙ not_false (fills_frame g (underway s h)) o.1 in
    let ne : (f == g) ≡ false =
    if_not (f == g)
    (λ t. not_both (list_any (λ b. b.0 == g) may.load.begun) (ap (λ k. list_any (λ b. b.0 == k) may.load.begun) (sym (same_number f g t)) ∙ begins_frame may.load.begun f p may.begun) off) in
    let next : underway s (Filled w f p ∷ h) ≡ Some (end_fill p may.load) =
    u ∙ ap Some (sym (filled_load s h w f p may l u).1) in
    both_and (is_none (piece_in s (Filled w f p ∷ h) g)) (not (fills_frame g (underway s (Filled w f p ∷ h))))
    (ap is_none (if_other (f == g) (Some p) (piece_in s h g) ne) ∙ o.0)
    (ap not (ap (fills_frame g) next ∙ off))))

enough_filled : (s : Setting) (h : History) (w f p : ℕ) → MayFilled s h w f p → Enough s h → Enough s (Filled w f p ∷ h)
enough_filled s h w f p may k l u =
    let before = k may.load may.is_load.underway in
    let more = filled_frees s h w f p may l u in
    subst (IsEnough s (Filled w f p ∷ h)) (filled_load s h w f p may l u).1
    (record { room = still before.room more; few = before.few })
  where
    still : (may.load.begun ≡ []) ⊎ (length may.load.missing ≤ free_frames s h + length may.load.begun)
        → free_frames s h ≤ free_frames s (Filled w f p ∷ h)
        → (may.load.begun ≡ []) ⊎ (length may.load.missing ≤ free_frames s (Filled w f p ∷ h) + length may.load.begun)
    still (inl none) le = inl none
    still (inr enough) le = inr (omega (arith, enough, le))

enough_next : (s : Setting) (h : History) (e : Entry) → Allowed s h e → Enough s h → Enough s (e ∷ h)
enough_next s h (Plan w q c) may k = enough_plan s h w q c
enough_next s h (Evict w c) may k = enough_evict s h w c may k
enough_next s h (Fill w f p) may k = enough_fill s h w f p may k
enough_next s h (Filled w f p) may k = enough_filled s h w f p may k
enough_next s h (Failed w q p why) may k = λ l u. absurd (none_some l u)
enough_next s h (Register w q) may k = λ l u. (let r = k l u in record { room = r.room; few = r.few })
enough_next s h (Deliver w q c) may k = λ l u. (let r = k l u in record { room = r.room; few = r.few })
enough_next s h (Release w q c) may k = λ l u. (let r = k l u in record { room = r.room; few = r.few })
enough_next s h (Stop w q) may k = λ l u. (let r = k l u in record { room = r.room; few = r.few })
enough_next s h (End w q) may k = λ l u. (let r = k l u in record { room = r.room; few = r.few })

pub enough : (s : Setting) (h : History) → Legal s h → Enough s h
enough s [] legal = λ l u. absurd (none_some l u)
enough s (e ∷ h) legal = enough_next s h e legal.0 (enough s h legal.2)
