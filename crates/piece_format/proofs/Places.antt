-- What stands at the places of a piece.
use Rattle.std.proofs.Common.{◌≡◌, ◌∙◌, ◌+◌, ◌-◌, ◌*◌, ◌/◌, ◌%◌, ◌<◌, ℕ, min, arith, refl, sym, ap}
use Rattle.std.proofs.lemmas.Bool.{ne_eqb, lt-ltb, le-ltb}
use Rattle.std.proofs.lemmas.Nat.{mod-mul-add, div-mul-add}
use Rattle.piece_format.specs.declared.layout.Layout.TheVariants as layouts
use Rattle.piece_format.specs.declared.pieces.Piece.{Piece}
use Rattle.piece_format.specs.Words.{nulls, slot_at, value}

pub mask_slot : (q : Piece) (row : ℕ) → q.layout ≡ layouts.Row → slot_at q (row * (q.columns + 1)) ≡ nulls q.columns (λ _. row) (λ bit. bit)
mask_slot q row here =
    let width = q.columns + 1 in
    let e : row * width + 0 ≡ row * width = omega arith in
    let left : row * width % width ≡ 0 = sym (ap (λ n. n % width) e) ∙ mod-mul-add row width 0 (omega arith) in
    let quotient : row * width / width ≡ row = sym (ap (λ n. n / width) e) ∙ div-mul-add row width 0 (omega arith) in
    rw (here, left, quotient) refl

pub row_value_slot : (q : Piece) (row x : ℕ) → q.layout ≡ layouts.Row → x < q.columns → slot_at q (row * (q.columns + 1) + 1 + x) ≡ value row x
row_value_slot q row x here low =
    let width = q.columns + 1 in
    let e : row * width + 1 + x ≡ row * width + (1 + x) = omega arith in
    let left : (row * width + (1 + x)) % width ≡ 1 + x = mod-mul-add row width (1 + x) (omega arith) in
    let quotient : (row * width + (1 + x)) / width ≡ row = div-mul-add row width (1 + x) (omega arith) in
    let column : 1 + x - 1 ≡ x = omega arith in
    rw (here, e, left, quotient, ne_eqb (1 + x) 0 (λ z. omega (arith, z)), column) refl

pub column_value_slot : (q : Piece) (row : ℕ) → q.layout ≡ layouts.Column → row < q.rows → slot_at q row ≡ value row q.group
column_value_slot q row here low = rw (here, lt-ltb row q.rows low) refl

pub null_slot : (q : Piece) (k : ℕ) → q.layout ≡ layouts.Column → slot_at q (q.rows + k) ≡ nulls (min 64 (q.rows - 64 * k)) (λ bit. 64 * k + bit) (λ _. q.group)
null_slot q k here = let e : q.rows + k - q.rows ≡ k = omega arith in rw (here, le-ltb (q.rows + k) q.rows (omega arith), e) refl
