-- A record more, and none more.
use Rattle.std.proofs.Common.{◌≡◌, ◌+◌, ◌*◌, ◌<◌, ◌≤◌, ℕ, zero, suc, Bool, true, false, List, length, drop, replicate, refl, add-one, sym, ap, ◌∙◌, arith, length-drop, drop_of_length-le}
use Rattle.std.specs.Prelude.{[], ◌∷◌, ◌++◌, slice_index_or}
use Rattle.std.proofs.lemmas.Bool.Decides.{nat_tests}
use Rattle.prepare_look.specs.Rows.{Row}
use Rattle.prepare_look.specs.Seeing.{is_folded, is_kind, is_long, is_short, none_seen, noted, one_more, seen_in, then_seen}
use Rattle.prepare_look.specs.Surveys.{Adds, IsAdded, IsLow, IsSurvey}
use Rattle.prepare_look.specs.declared.seen.Seen.{Seen}
use Rattle.prepare_look.specs.declared.survey.Survey.{Survey}

made : ℕ → ℕ → Seen
made n line = record { count = n; line = line }

seen-eq : (a b : Seen) → a.count ≡ b.count → a.line ≡ b.line → a ≡ b
unfolding made
seen-eq a b e f = ap (λ (n : ℕ). made n a.line) e ∙ ap (λ (l : ℕ). made b.count l) f

-- one record, and then the others
noted-then : (is : Bool) (line : ℕ) (a rest : Seen) → then_seen (noted is line a) rest ≡ then_seen a (then_seen (noted is line none_seen) rest)
noted-then false line a rest = seen-eq (then_seen a rest) (then_seen a (then_seen none_seen rest)) (grind (arith, nat_tests)) (grind (arith, nat_tests))
noted-then true line a rest = seen-eq (then_seen (one_more line a) rest) (then_seen a (then_seen (one_more line none_seen) rest)) (grind (arith, nat_tests)) (grind (arith, nat_tests))

then-none : (a : Seen) → then_seen a none_seen ≡ a
then-none a = seen-eq (then_seen a none_seen) a (omega arith) (grind (arith, nat_tests))

none-then : (is : Row → Bool) (rows : List Row) → then_seen none_seen (seen_in is rows) ≡ seen_in is rows
unfolding seen_in
none-then is [] = refl
none-then is (row ∷ rows) = sym (noted-then (is row) row.line none_seen (seen_in is rows))

next : (is : Row → Bool) (row : Row) (rows : List Row) (a b all : Seen) → b ≡ noted (is row) row.line a → then_seen a (seen_in is (row ∷ rows)) ≡ all
    → then_seen b (seen_in is rows) ≡ all
unfolding seen_in
next is row rows a b all e h = rw e (noted-then (is row) row.line a (seen_in is rows) ∙ h)

last : (is : Row → Bool) (a all : Seen) → then_seen a (seen_in is []) ≡ all → a ≡ all
unfolding seen_in
last is a all h = sym (then-none a) ∙ h

pub adds-next : (width : ℕ) (all left : List Row) (row : Row) (s t : Survey) → Adds width all (row ∷ left) s → IsAdded s row t → Adds width all left t
adds-next width all left row s t is add =
    let w : s.width ≡ width = is.width in
    record {
      width = add.width ∙ w;
      records = omega (arith, add.records, is.records);
      short = next (is_short width) row left s.short t.short (seen_in (is_short width) all) (rw w at add.short) is.short;
      long = next (is_long width) row left s.long t.long (seen_in (is_long width) all) (rw w at add.long) is.long;
      folded = next is_folded row left s.folded t.folded (seen_in is_folded all) add.folded is.folded;
      kinds = λ column kind low few.
          next (is_kind column kind) row left (slice_index_or s.cells.items (column * 25 + kind) none_seen) (slice_index_or t.cells.items (column * 25 + kind) none_seen)
          (seen_in (is_kind column kind) all) (add.kinds column kind (rw w low) few) (is.kinds column kind low few);
    }

pub adds-last : (width : ℕ) (all : List Row) (s : Survey) → Adds width all [] s → IsSurvey width all s
adds-last width all s is = record {
  width = is.width;
  records = omega (arith, is.records);
  short = last (is_short width) s.short (seen_in (is_short width) all) is.short;
  long = last (is_long width) s.long (seen_in (is_long width) all) is.long;
  folded = last is_folded s.folded (seen_in is_folded all) is.folded;
  kinds = λ column kind low few. last (is_kind column kind) (slice_index_or s.cells.items (column * 25 + kind) none_seen) (seen_in (is_kind column kind) all) (is.kinds column kind low few);
}

first : (is : Row → Bool) (a : Seen) (all : List Row) → a ≡ seen_in is [] → then_seen a (seen_in is all) ≡ seen_in is all
unfolding seen_in
first is a all e = rw e (none-then is all)

pub adds-first : (width : ℕ) (all : List Row) (s : Survey) → IsSurvey width [] s → Adds width all all s
adds-first width all s is = record {
  width = is.width;
  records = omega (arith, is.records);
  short = first (is_short width) s.short all is.short;
  long = first (is_long width) s.long all is.long;
  folded = first is_folded s.folded all is.folded;
  kinds = λ column kind low few. first (is_kind column kind) (slice_index_or s.cells.items (column * 25 + kind) none_seen) all (is.kinds column kind low few);
}

noted-low : (is : Bool) (line n : ℕ) (a : Seen) → a.count < n → (noted is line a).count < n + 1
noted-low false line n a h = omega arith
noted-low true line n a h = grind (arith, nat_tests)

pub low-next : (n : ℕ) (s t : Survey) (row : Row) → IsLow n s → IsAdded s row t → IsLow (n + 1) t
low-next n s t row is add = record {
  records = omega (arith, add.records, is.records);
  short = rw add.short (noted-low (is_short s.width row) row.line n s.short is.short);
  long = rw add.long (noted-low (is_long s.width row) row.line n s.long is.long);
  folded = rw add.folded (noted-low (is_folded row) row.line n s.folded is.folded);
  kinds = λ i. omega (arith, add.low i, is.kinds i);
}

pub low-more : (n m : ℕ) (s : Survey) → n ≤ m → IsLow n s → IsLow m s
low-more n m s h is = record {
  records = omega (arith, is.records);
  short = omega (arith, is.short);
  long = omega (arith, is.long);
  folded = omega (arith, is.folded);
  kinds = λ i. omega (arith, is.kinds i);
}

-- nothing is left, so nothing is left behind more
pub drop-past : (n k : ℕ) (xs : List Row) → drop n xs ≡ [] → n ≤ k → drop k xs ≡ []
drop-past n k xs e h = drop_of_length-le xs (omega (arith, length-drop n xs, ap (length {A = Row}) e))

drop-suc : (n : ℕ) (xs : List Row) (x : Row) (rest : List Row) → drop n xs ≡ x ∷ rest → drop (suc n) xs ≡ rest
drop-suc zero [] x rest e = cc e
drop-suc zero (y ∷ ys) x rest e = cc e
drop-suc (suc n) [] x rest e = cc e
drop-suc (suc n) (y ∷ ys) x rest e = drop-suc n ys x rest e

-- one is left, and then the others
pub drop-next : (n : ℕ) (xs : List Row) (x : Row) (rest : List Row) → drop n xs ≡ x ∷ rest → drop (n + 1) xs ≡ rest
drop-next n xs x rest e = rw add-one (drop-suc n xs x rest e)

pub get-replicate : (n i : ℕ) → slice_index_or (replicate n none_seen) i none_seen ≡ none_seen
get-replicate zero i = refl
get-replicate (suc n) zero = refl
get-replicate (suc n) (suc i) = get-replicate n i

push-suc : (n : ℕ) → replicate n none_seen ++ (none_seen ∷ []) ≡ replicate (suc n) none_seen
push-suc zero = refl
push-suc (suc n) = ap (λ (l : List Seen). none_seen ∷ l) (push-suc n)

pub push-replicate : (n m : ℕ) → m ≡ n + 1 → replicate n none_seen ++ (none_seen ∷ []) ≡ replicate m none_seen
push-replicate n m e = rw (e, add-one) (push-suc n)
