-- Pieces that are put one after another.
use Rattle.std.proofs.Common.{◌≡◌, ◌∙◌, ◌+◌, ◌<◌, ◌==◌, ℕ, List, [], ◌∷◌, Some, None, if◌then◌else◌, arith, refl, sym, subst, inl, inr}
use Rattle.std.proofs.lemmas.Bool.{cases_Bool, cases_eq, eq-eqb, ne_eqb}
use Rattle.std.proofs.lemmas.Cmp.{ranked}
use Rattle.std.specs.BTreeMap.{insert_entry}
use Rattle.std.specs.Ordering.{match_ordering, nat_cmp}
use Rattle.std.specs.declared.cmp.Ordering.{Ordering}
use Rattle.std.specs.declared.cmp.Ordering.TheVariants.{Less, Equal, Greater}
use Rattle.coop_outside.specs.Pieces.{OthersStay, Pieces, Stored, bytes_of, with_piece}
use Rattle.piece_format.specs.Shape.{TableShape}
use Rattle.table_core.specs.declared.cell.Cell.{Cell}
use Rattle.table_pieces.specs.Putting.{ArePut, piece_bytes}

-- the bytes of each piece after one was put
pub bytes_of-insert : (pieces : Pieces) (p : ℕ) (bytes : List ℕ) (q : ℕ) → bytes_of (insert_entry nat_cmp pieces p bytes) q ≡ (if p == q then Some bytes else bytes_of pieces q)
bytes_of-insert [] p bytes q = refl
bytes_of-insert (e ∷ es) p bytes q = by (nat_cmp p e.0) refl (bytes_of-insert es p bytes q) where
  after : Ordering → Pieces
  after o = match_ordering o ((p, bytes) ∷ e ∷ es) ((e.0, bytes) ∷ es) (e ∷ insert_entry nat_cmp es p bytes)

  by : (o : Ordering) → nat_cmp p e.0 ≡ o → bytes_of (insert_entry nat_cmp es p bytes) q ≡ (if p == q then Some bytes else bytes_of es q) → bytes_of (after o) q ≡ (if p == q then Some bytes else bytes_of (e ∷ es) q)
  by Less is rest = refl
  by Equal is rest =
      let same : p ≡ e.0 = ranked p e.0 Equal (sym is) in
      rw same (elim (cases_Bool (e.0 == q)) [ inl here ↦ rw here refl | inr other ↦ rw other refl ])
  by Greater is rest =
      let above : e.0 < p = ranked p e.0 Greater (sym is) in
      rw rest (elim (cases_eq e.0 q) [
        | inl here ↦ rw (ne_eqb p q (λ same. omega (arith, above, here, same))) refl
        | inr other ↦ rw (ne_eqb e.0 q other) refl
      ])

module _ (s : TableShape) (rows : List (List Cell)) where
  -- one more piece was put
  pub put_more : (n : ℕ) (old now new : Stored) → ArePut s rows n n old now → new ≡ with_piece now n (piece_bytes s rows n) → ArePut s rows (n + 1) (n + 1) old new
  put_more n old now new are is = subst (ArePut s rows (n + 1) (n + 1) old) (sym is) (by old now are) where
    by : (old now : Stored) → ArePut s rows n n old now → ArePut s rows (n + 1) (n + 1) old (with_piece now n (piece_bytes s rows n))
    by None None are = tt
    by None (Some now) are = absurd are
    by (Some old) None are = absurd are
    by (Some old) (Some now) are =
        let bytes = piece_bytes s rows n in
        record {
          put = λ p low. elim (cases_eq n p) [
            | inl here ↦ subst (λ q. bytes_of (insert_entry nat_cmp now n bytes) q ≡ Some (piece_bytes s rows q)) here (bytes_of-insert now n bytes n ∙ rw (eq-eqb n n refl) refl)
            | inr other ↦ bytes_of-insert now n bytes p ∙ rw (ne_eqb n p other) (are.put p (omega (arith, low, other)))
          ];
          kept = λ p from. bytes_of-insert now n bytes p ∙ rw (ne_eqb n p (λ same. omega (arith, from, same))) (are.kept p (omega (arith, from)));
        }

  -- a piece was not taken
  pub put_failed : (n : ℕ) (old now new : Stored) → ArePut s rows n n old now → OthersStay now new n → ArePut s rows n (n + 1) old new
  put_failed n None None None are stay = tt
  put_failed n None None (Some new) are stay = absurd stay
  put_failed n None (Some now) new are stay = absurd are
  put_failed n (Some old) None new are stay = absurd are
  put_failed n (Some old) (Some now) None are stay = absurd stay
  put_failed n (Some old) (Some now) (Some new) are stay = record {
    put = λ p low. stay p (λ e. omega (arith, e, low)) ∙ are.put p low;
    kept = λ p from. stay p (λ e. omega (arith, e, from)) ∙ are.kept p (omega (arith, from));
  }
