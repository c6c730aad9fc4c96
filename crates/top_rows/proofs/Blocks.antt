-- The chosen rows of a block, added one after another.
use Rattle.std.proofs.Common.{◌≡◌, ◌∙◌, ◌<◌, ◌+◌, ◌==◌, ◌++◌, ◌∷◌, [], ℕ, zero, suc, true, false, if◌then◌else◌, List, length, map, take, refl, sym, ap, subst, arith, append_assoc, append-nil}
use Rattle.std.specs.Prelude.{All}
use Rattle.std.specs.Int.{bit_at}
use Rattle.std.specs.List.{range_with_len}
use Rattle.std.proofs.Math.Seq.{take-length}
use Rattle.std.proofs.lemmas.Bool.{ne_eqb, or_from}
use Rattle.std.proofs.lemmas.List.{take-append-le}
use Rattle.std.proofs.lemmas.List.Elements.{All-head, All-tail}
use Rattle.row_blocks.specs.Blocks.{BlockView}
use Rattle.row_blocks.specs.Chosen.{chosen_from}
use Rattle.top_rows.specs.Blocks.{HoldsInPart, numbered_at}
use Rattle.query_meaning.specs.Rows.{AreDistinct, has_number}
use Rattle.top_rows.specs.Top.{IsBehind, Kept, Stands}
use Rattle.top_rows.proofs.Before.{Row}
use Rattle.top_rows.proofs.Stands.{distinct_behind}

module _ {T : Type 0} where
  -- it holds of these rows and some more, that were added: these are left
  pub record IsAdded (Holds : List T → Type 0) (rows left more : List T) : Type 0 where
    pub done : List T
    pub holds : Holds (rows ++ done)
    pub same : done ++ left ≡ more

  pub added_none : (Holds : List T → Type 0) (rows more : List T) → Holds rows → IsAdded Holds rows more more
  added_none Holds rows more h = record { done = []; holds = subst Holds (sym (append-nil rows)) h; same = refl }

  pub added_more : (Old New : List T → Type 0) (r : T) (rows left more : List T) → ((done : List T) → done ++ r ∷ left ≡ more → Old (rows ++ done) → New ((rows ++ done) ++ r ∷ []))
      → IsAdded Old rows (r ∷ left) more → IsAdded New rows left more
  added_more Old New r rows left more h a = record {
    done = a.done ++ r ∷ [];
    holds = subst New (append_assoc rows a.done (r ∷ [])) (h a.done a.same a.holds);
    same = append_assoc a.done (r ∷ []) left ∙ a.same;
  }

  pub added_all : (Holds : List T → Type 0) (rows more : List T) → IsAdded Holds rows [] more → Holds (rows ++ more)
  added_all Holds rows more a = subst (λ l. Holds (rows ++ l)) (sym (append-nil a.done) ∙ a.same) a.holds

  -- those that were added are the first ones
  pub added_part : (Holds : List T → Type 0) (rows left more : List T) → IsAdded Holds rows left more → HoldsInPart Holds rows more
  added_part Holds rows left more a =
      let n = length a.done in
      let front : take n more ≡ a.done = ap (take n) (sym a.same) ∙ take-append-le n a.done left (omega arith) ∙ take-length a.done in
      record { count = n; holds = subst (λ l. Holds (rows ++ l)) (sym front) a.holds }

-- a row more of first rows
pub stands_on : (t new : Kept) (r : Row) (rows left more : List Row) → ((rows : List Row) → Stands t rows → has_number rows r.0 ≡ false → Stands new (rows ++ r ∷ []))
    → AreDistinct (rows ++ more) → (done : List Row) → done ++ r ∷ left ≡ more → Stands t (rows ++ done) → Stands new ((rows ++ done) ++ r ∷ [])
stands_on t new r rows left more h d done same s =
    let whole : rows ++ more ≡ (rows ++ done) ++ r ∷ left = ap (λ l. rows ++ l) (sym same) ∙ sym (append_assoc rows done (r ∷ left)) in
    h (rows ++ done) s (distinct_behind (rows ++ done) r left (subst (λ rs. AreDistinct rs) whole d))

-- nothing was added, and each row that is left can't be among the first ones either
pub record IsSpared (old new : Kept) (left : List Row) : Type 0 where
  pub same : new ≡ old
  pub behind : All (IsBehind old.plan.limit old.plan.order old.rows) left

module _ (old new : Kept) (r : Row) (left : List Row) (spared : IsSpared old new (r ∷ left)) where
  pub spared_first : IsBehind new.plan.limit new.plan.order new.rows r
  spared_first =
      subst (λ (k : Kept). IsBehind k.plan.limit k.plan.order k.rows r) (sym spared.same) (All-head (IsBehind old.plan.limit old.plan.order old.rows) r left spared.behind)

  pub spared_rest : IsSpared old new left
  spared_rest = record { same = spared.same; behind = All-tail (IsBehind old.plan.limit old.plan.order old.rows) r left spared.behind }

module _ (first : ℕ) (b : BlockView) (word : ℕ) where
  -- the chosen ones among so many rows, from one on
  abbrev pub chosen_on : ℕ → ℕ → List Row
  chosen_on i k = chosen_from i word (map (numbered_at first b) (range_with_len i k))

  -- their numbers are those of the rows from there on
  lacks_before : (i k n : ℕ) → n < first + i → has_number (chosen_on i k) n ≡ false
  lacks_before i zero n low = refl
  lacks_before i (suc k) n low =
      let rest : has_number (chosen_on (i + 1) k) n ≡ false = lacks_before (i + 1) k n (omega (arith, low)) in
      elim (bit_at word i == 1) as (λ c. has_number (if c then numbered_at first b i ∷ chosen_on (i + 1) k else chosen_on (i + 1) k) n ≡ false) [
        | true ↦ or_from (n == first + i) (has_number (chosen_on (i + 1) k) n) (ne_eqb n (first + i) (λ e. omega (arith, e, low))) rest
        | false ↦ rest
      ]

  pub distinct_chosen : (i k : ℕ) → AreDistinct (chosen_on i k)
  distinct_chosen i zero = tt
  distinct_chosen i (suc k) =
      let rest : AreDistinct (chosen_on (i + 1) k) = distinct_chosen (i + 1) k in
      elim (bit_at word i == 1) as (λ c. AreDistinct (if c then numbered_at first b i ∷ chosen_on (i + 1) k else chosen_on (i + 1) k)) [
        | true ↦ (lacks_before (i + 1) k (first + i) (omega arith), rest)
        | false ↦ rest
      ]

  -- a chosen row is the first of those that are left
  pub chosen_set : (i k : ℕ) → (bit_at word i == 1) ≡ true → chosen_on i (suc k) ≡ numbered_at first b i ∷ chosen_on (i + 1) k
  chosen_set i k set = ap (λ c. if c then numbered_at first b i ∷ chosen_on (i + 1) k else chosen_on (i + 1) k) set

  -- a chosen row is added
  pub added_row : (i k : ℕ) (old new : Kept) (rows these : List Row) → (bit_at word i == 1) ≡ true → ((rs : List Row) → Stands old rs → has_number rs (first + i) ≡ false → Stands new (rs ++ numbered_at first b i ∷ []))
      → AreDistinct (rows ++ these) → IsAdded (Stands old) rows (chosen_on i (suc k)) these → IsAdded (Stands new) rows (chosen_on (i + 1) k) these
  added_row i k old new rows these set adds d a =
      let r : Row = numbered_at first b i in
      let left = chosen_on (i + 1) k in
      added_more (Stands old) (Stands new) r rows left these (stands_on old new r rows left these adds d)
      (subst (λ all. IsAdded (Stands old) rows all these) (chosen_set i k set) a)
