-- Some of the first columns are such.
use Rattle.std.proofs.Common.{◌≡◌, ◌+◌, ◌<◌, ℕ, zero, suc, Bool, true, false, refl, sym, ap, ◌∙◌, arith, inl, inr, add-one}
use Rattle.std.specs.Prelude.{◌||◌}
use Rattle.std.proofs.lemmas.Bool.Decides.{eqb_tells}
use Rattle.prepare_look.specs.Lines.{one_if}
use Rattle.prepare_page.specs.Columns.{count_below, some_below}

or-true : (b : Bool) → b || true ≡ true
or-true true = refl
or-true false = refl

pub some-found : (is : ℕ → Bool) (n m : ℕ) → is n ≡ true → n < m → some_below is m ≡ true
unfolding some_below
some-found is n zero e h = absurd (omega arith)
some-found is n (suc m) e h = elim (eqb_tells n m) [
  | inl same ↦ rw (ap is (sym same.1) ∙ e) (or-true (some_below is m))
  | inr not ↦ rw (some-found is n m e (omega (arith, not.1))) refl
]

pub some-none : (is : ℕ → Bool) → some_below is 0 ≡ false
unfolding some_below
some-none is = refl

pub some-next : (is : ℕ → Bool) (n : ℕ) → some_below is n ≡ false → is n ≡ false → some_below is (n + 1) ≡ false
unfolding some_below
some-next is n h e = rw add-one (rw (h, e) refl)

-- ---- how many

pub none-counted : (is : ℕ → Bool) → 0 ≡ count_below is 0
unfolding count_below
none-counted is = refl

pub next-counted : (is : ℕ → Bool) (n : ℕ) → count_below is (n + 1) ≡ count_below is n + one_if (is n)
unfolding count_below
next-counted is n = rw add-one refl
