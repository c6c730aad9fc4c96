use Rattle.std.proofs.Common.{◌≡◌, ◌≢◌, ◌≤◌, ℕ, List, length, get_or, sym, refl, inl, inr, arith}
use Rattle.std.specs.Prelude.{[], ◌∷◌}
use Rattle.std.proofs.lemmas.Bool.Decides.{eqb_tells}
use Rattle.prepare_look.specs.Kinds.{of_shape, signed_kind}
use Rattle.prepare_look.specs.Shapes.{shape_of}
use Rattle.prepare_look.proofs.kind.signed_kind.Goals as goal

-- a field that begins with no sign
unsigned : (f : List ℕ) → 1 ≤ length f → get_or f 0 0 ≢ 45 → get_or f 0 0 ≢ 43 → signed_kind f ≡ of_shape (shape_of f)
unsigned [] h minus plus = absurd (omega arith)
unsigned (b ∷ bytes) h minus plus = elim (eqb_tells b 45) [
  | inl is ↦ absurd (minus is.1)
  | inr not ↦ elim (eqb_tells b 43) [
    | inl is ↦ absurd (plus is.1)
    | inr none ↦ rw (not.0, none.0) refl
  ]
]

pub returns : goal.returns
returns c =
    rw (c.of_shape-2.ensures, c.shape_of-2.ensures) (sym (unsigned c.args.field.now c.in-len1-up.len_at_least c.if-first-eq45.false c.if-first-eq43.false))
