-- Lines and columns, one byte more.
use Rattle.std.proofs.Common.{◌≡◌, ◌<◌, ◌≤◌, ℕ, ◌+◌, ◌==◌, Bool, true, false, not, List, [], ◌∷◌, ◌++◌, length, take, reverse, get_or, refl, sym, ap, ◌∙◌, arith}
use Rattle.std.specs.Prelude.{if◌then◌else◌}
use Rattle.std.specs.List.{prefix_len}
use Rattle.std.proofs.lemmas.List.{reverse-append}
use Rattle.std.proofs.lemmas.Grind.{take_at_read}
use Rattle.inspect_places.specs.Lines.{ended, line_of, column_of}

pub ended_push : (xs : List ℕ) (b : ℕ) → ended (xs ++ b ∷ []) ≡ ended xs + (if b == 10 then 1 else 0)
ended_push [] b = omega arith
ended_push (x ∷ xs) b = omega (arith, ended_push xs b)

pub column_push : (xs : List ℕ) (b : ℕ) → column_of (xs ++ b ∷ []) ≡ (if b == 10 then 1 else 1 + column_of xs)
column_push xs b = ap (λ w. 1 + prefix_len (λ b. not (b == 10)) w) (reverse-append xs (b ∷ [])) ∙ by (b == 10) where
  by : (e : Bool) → 1 + (if not e then 1 + prefix_len (λ b. not (b == 10)) (reverse xs) else 0) ≡ (if e then 1 else 1 + column_of xs)
  by true = omega arith
  by false = refl

at_most_one : (e : Bool) → (if e then 1 else 0) ≤ 1
at_most_one true = omega arith
at_most_one false = omega arith

short : (e : Bool) (n k : ℕ) → n ≤ k → (if e then 1 else 1 + n) ≤ k + 1
short true n k h = omega arith
short false n k h = omega (arith, h)

-- the place behind the byte i
pub spot_next : (bs : List ℕ) (i line column line' column' : ℕ) → i < length bs
    → (line ≡ line_of (take i bs)) × (column ≡ column_of (take i bs)) × (line ≤ i + 1) × (column ≤ i + 1)
    → line' ≡ line + (if get_or bs i 0 == 10 then 1 else 0) → column' ≡ (if get_or bs i 0 == 10 then 1 else 1 + column)
    → (line' ≡ line_of (take (i + 1) bs)) × (column' ≡ column_of (take (i + 1) bs)) × (line' ≤ i + 1 + 1) × (column' ≤ i + 1 + 1)
spot_next bs i line column line' column' within h e k =
    let b = get_or bs i 0 in
    let prefix = (take_at_read bs i 0 within).1 in
    (omega (arith, e, h.0, ap line_of prefix, ended_push (take i bs) b), k ∙ ap (λ n. if b == 10 then 1 else 1 + n) h.1 ∙ sym (column_push (take i bs) b) ∙ sym (ap column_of prefix), omega (arith, e, h.2, at_most_one (b == 10)), omega (arith, k, short (b == 10) column (i + 1) h.3))
