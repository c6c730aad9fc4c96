-- One step of reading behind another.
use Rattle.std.proofs.Common.{◌≡◌, ◌∙◌, ◌<◌, ◌+◌, ◌++◌, ap, ap₂, sym, refl, subst, suc, zero, ℕ, true, false, List, [], ◌∷◌, length, drop, get_or, drop-cons, arith, Result, Ok, Err, append_assoc}
use Rattle.std.specs.Prelude.{Option, Some, nat_le}
use Rattle.std.specs.Borrow.{Bor}
use Rattle.std.specs.List.{after_first, before_first, position_or_len}
use Rattle.prepare_words.proofs.Cuts.{first_item, one_item}
use Rattle.std.proofs.lemmas.List.{length-map, map-append}
use Rattle.clap.specs.Walk.{Text}
use Rattle.prepare_words.specs.Reading.{◌>>=◌, Fails, Faulty, columns_after, columns_of, is_comma, items_after, items_of, joined, places_on, rename_of, wrong, renames_after}
use Rattle.prepare_words.specs.Views.{ColumnIs, column_view, columns_view, placed, texts_of}
use Rattle.prepare_rules.specs.declared.rules.Column.{Column}
use Rattle.prepare_rules.specs.declared.rules.Column.TheVariants.{Placed}
use Rattle.prepare_words.specs.declared.fault.Fault.{Fault}
use Rattle.prepare_words.specs.declared.fault.Fault.TheVariants as fault
use Rattle.prepare_words.specs.declared.fault.Word.{Word}

-- what fails first, fails whatever would come behind it
pub later : {A B : Type 0} (e : Fault) (r : Result A Faulty) (f : A → Result B Faulty) → Fails e r → Fails e (r >>= f)
later (fault.Value w value) r f h = ap (λ x. x >>= f) h
later (fault.Alone w) r f h = ap (λ x. x >>= f) h
later fault.Memory r f h = tt

-- the next value, and those behind it
pub next_value : (w : Word) (before : List ColumnIs) (values : List (Bor Text)) (i : ℕ) (d : Bor Text) → i < length values
    → columns_after w before (texts_of (drop i values)) ≡ (items_after w before (items_of (get_or values i d).now) >>= λ columns. columns_after w columns (texts_of (drop (suc i) values)))
next_value w before values i d h = rw (drop-cons values i d h) refl

pub next_rename : (before : List (Text × Text)) (values : List (Bor Text)) (i : ℕ) (d : Bor Text) → i < length values
    → renames_after before (texts_of (drop i values)) ≡ (rename_of (get_or values i d).now >>= λ r. renames_after (before ++ r ∷ []) (texts_of (drop (suc i) values)))
next_rename before values i d h = rw (drop-cons values i d h) refl

-- one more place at the end
pub places_on-more : (from n : ℕ) → places_on from (suc n) ≡ places_on from n ++ placed (from + n) ∷ []
places_on-more from zero = ap (λ k. placed k ∷ []) (omega arith)
places_on-more from (suc n) = ap (λ cs. placed from ∷ cs) (places_on-more (from + 1) n ∙ ap (λ k. places_on (from + 1) n ++ placed k ∷ []) (omega arith))

pub one_more : (cs : List Column) (before : List ColumnIs) (from i : ℕ) → columns_view cs ≡ before ++ places_on from i
    → columns_view (cs ++ Placed (from + i) ∷ []) ≡ before ++ places_on from (i + 1)
one_more cs before from i h =
    let more : i + 1 ≡ suc i = omega arith in
    map-append column_view cs (Placed (from + i) ∷ []) ∙ ap (λ v. v ++ placed (from + i) ∷ []) h ∙ append_assoc before (places_on from i) (placed (from + i) ∷ [])
    ∙ ap (λ ps. before ++ ps) (sym (places_on-more from i)) ∙ ap (λ n. before ++ places_on from n) (sym more)

length-places : (from n : ℕ) → length (places_on from n) ≡ n
length-places from zero = refl
length-places from (suc n) = ap suc (length-places (from + 1) n)

-- so many places more are too many, or few enough
pub too_many : (w : Word) (item : Text) (cs : List Column) (from n : ℕ) (o : Option (List ColumnIs)) → Some (places_on from n) ≡ o → nat_le (length cs + n) 16 ≡ false
    → joined w item (columns_view cs) o ≡ Err (wrong w item)
too_many w item cs from n o is many = subst (λ x. joined w item (columns_view cs) x ≡ Err (wrong w item)) is
    (rw (length-map cs column_view, length-places from n, many) refl)

pub few : (w : Word) (item : Text) (cs new : List Column) (from n : ℕ) (o : Option (List ColumnIs)) → Some (places_on from n) ≡ o → nat_le (length cs + n) 16 ≡ true
    → columns_view new ≡ columns_view cs ++ places_on from n → joined w item (columns_view cs) o ≡ Ok (columns_view new)
few w item cs new from n o is enough put = subst (λ x. joined w item (columns_view cs) x ≡ Ok (columns_view new)) is
    (rw (length-map cs column_view, length-places from n, enough) (ap Ok (sym put)))

pub no_more : {A : Type 0} (r : Result A Faulty) → (r >>= λ x. Ok x) ≡ r
no_more (Ok x) = refl
no_more (Err e) = refl

-- the columns of the first item of a list, and then of those behind it
pub list_cut : (w : Word) (before : List ColumnIs) (text item behind : Text) → item ≡ before_first is_comma text → behind ≡ after_first is_comma text
    → position_or_len is_comma text < length text → items_after w before (items_of text) ≡ (joined w item before (columns_of item) >>= λ cs. items_after w cs (items_of behind))
list_cut w before text item behind a b h = ap (items_after w before) (first_item text h)
    ∙ ap₂ (λ i r. joined w i before (columns_of i) >>= λ cs. items_after w cs (items_of r)) (sym a) (sym b)

pub list_end : (w : Word) (before : List ColumnIs) (text : Text) → position_or_len is_comma text ≡ length text
    → items_after w before (items_of text) ≡ joined w text before (columns_of text)
list_end w before text h = ap (items_after w before) (one_item text h) ∙ no_more (joined w text before (columns_of text))
