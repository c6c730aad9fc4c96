-- The chunks that may have a piece in a frame.
use Rattle.std.proofs.Common.{◌≡◌, ◌≤◌, ◌<◌, ◌+◌, ◌*◌, ◌/◌, ◌%◌, ◌==◌, ◌&&◌, ◌||◌, not, ℕ, Bool, true, false, if◌then◌else◌, List, set, Option, None, Some, is_some, nat_lt, nat_le, refl, sym, ◌∙◌, ap, arith, inl, inr}
use Rattle.std.proofs.lemmas.Bool.{cases_Bool, cases_eq}
use Rattle.std.proofs.lemmas.Bool.Decides.{nat_tests}
use Rattle.std.proofs.lemmas.List.{get_or-set_other}
use Rattle.std.proofs.lemmas.Nat.{div-mul-add}
use Rattle.std.proofs.Math.Nat.{mod-lt}
use Rattle.scan_story.specs.Counting.{has}
use Rattle.chunk_interest.specs.Frames.{Covers, place_at, cached_in}
use Rattle.chunk_interest.proofs.Below.{true_false, none_some, equal_number, same_number, count_none}
use Rattle.chunk_interest.proofs.Buffering.{piece_group}

-- where a piece comes into a frame
pub covers_more : (ps : List (Option ℕ)) (n p f : ℕ) (old new : List ℕ) → ((x : ℕ) → has new x ≡ (has old x || x == p / n)) → Covers ps n old → Covers (set ps p (Some f)) n new
covers_more ps n p f old new more is = λ x there. elim (cases_eq x p) [
  | inl at ↦ more (x / n) ∙ second (has old (x / n)) (x / n == p / n) (equal_number (x / n) (p / n) (ap (λ (y : ℕ). y / n) at))
  | inr ne ↦ more (x / n) ∙ first (has old (x / n)) (x / n == p / n) (is x (ap is_some (sym (get_or-set_other ps p x (Some f) None ne)) ∙ there))
]
  where
    first : (a b : Bool) → a ≡ true → (a || b) ≡ true
    first a b e = cc

    second : (a b : Bool) → b ≡ true → (a || b) ≡ true
    second true b e = refl
    second false b e = e

-- where a chunk leaves the frames
pub covers_less : (ps qs : List (Option ℕ)) (n c : ℕ) (old new : List ℕ) → 1 ≤ n → ((p : ℕ) → place_at qs p ≡ (if nat_le (c * n) p && nat_lt p (c * n + n) then None else place_at ps p))
    → ((x : ℕ) → has new x ≡ (has old x && not (x == c))) → Covers ps n old → Covers qs n new
covers_less ps qs n c old new some leaves less is = λ p there.
    (let out = outside (nat_le (c * n) p && nat_lt p (c * n + n)) (place_at ps p) (ap is_some (sym (leaves p)) ∙ there) in
    less (p / n) ∙ both (has old (p / n)) (p / n == c) (is p out.1) (other p out.0))
  where
    outside : (b : Bool) (o : Option ℕ) → is_some (if b then None else o) ≡ true → (b ≡ false) × (is_some o ≡ true)
    outside true o e = absurd (true_false false e refl)
    outside false o e = (refl, e)

    both : (a b : Bool) → a ≡ true → b ≡ false → (a && not b) ≡ true
    both a b e f = rw (e, f) refl

    within : (a x b : ℕ) → a ≤ x → x < b → (nat_le a x && nat_lt x b) ≡ false → ⊥
    within a x b l h e = grind (arith, nat_tests)

    other : (p : ℕ) → (nat_le (c * n) p && nat_lt p (c * n + n)) ≡ false → (p / n == c) ≡ false
    other p e = elim (cases_Bool (p / n == c)) [
      | inl so ↦ absurd (let piece = piece_group n c p some (same_number (p / n) c so) in
          let group : p % n < n = mod-lt p {m = n} (omega (arith, some)) in
          within (c * n) p (c * n + n) (omega (arith, piece)) (omega (arith, piece, group)) e)
      | inr not ↦ not
    ]

-- a chunk that isn't among them has no piece in a frame
pub uncovered : (ps : List (Option ℕ)) (n : ℕ) (chunks : List ℕ) (c : ℕ) → Covers ps n chunks → has chunks c ≡ false → cached_in ps n c ≡ 0
uncovered ps n chunks c is out = count_none (λ g. is_some (place_at ps (c * n + g))) n (λ g lt. elim (cases_Bool (is_some (place_at ps (c * n + g)))) [
  | inl there ↦ absurd (true_false (has chunks c) (ap (has chunks) (sym (div-mul-add c n g lt)) ∙ is (c * n + g) there) out)
  | inr not ↦ not
])

-- a piece that stands in a frame after a chunk left stood there before
pub stood : (b : Bool) (o : Option ℕ) (f : ℕ) → (if b then None else o) ≡ Some f → o ≡ Some f
stood true o f e = absurd (none_some f e)
stood false o f e = e
