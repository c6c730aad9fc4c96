-- The cells of a column, and lists side by side.
use Rattle.std.proofs.Common.{◌≡◌, ◌≢◌, ◌∙◌, ◌+◌, ◌<◌, ◌++◌, ℕ, zero, suc, List, [], ◌∷◌, arith, refl, sym, ap, length, get_or, inl, inr}
use Rattle.std.specs.Prelude.{All, Contains, ◌⊎◌, None, Some, Option, IfSome}
use Rattle.std.specs.List.{AllZip}
use Rattle.std.proofs.lemmas.List.{get_or-map, length-map, get_or_default}
use Rattle.std.proofs.lemmas.List.Elements.{All-get_or, All-weaker, All-contains, Contains-get_or}
use Rattle.csv_load.specs.Kinds.{kind_of, value_as}
use Rattle.csv_load.proofs.Holding.{AreSame}
use Rattle.csv_load.specs.Judged.{Fields}
use Rattle.csv_load.specs.Finished.{columns_with}
use Rattle.csv_load.specs.Meaning.{IsDictionary, column_at, columns_from}
use Rattle.csv_load.specs.Typed.{IsCell}
use Rattle.csv_load.specs.declared.typed.Typed.{Typed}
use Rattle.table_core.specs.Columns.{code_cell}
use Rattle.table_core.specs.Value.{text, zip_with}
use Rattle.table_core.specs.declared.schema.Column.{Column}
use Rattle.table_core.specs.declared.schema.Kind.TheVariants as kinds
use Rattle.csv_load.specs.Ranks.{IsRanked, stands_for}

pub length-zip_with : {A B C : Type 0} (f : A → B → C) (xs : List A) (ys : List B) → length xs ≡ length ys → length (zip_with f xs ys) ≡ length xs
length-zip_with f [] ys e = refl
length-zip_with f (x ∷ xs) [] e = absurd (omega (arith, e))
length-zip_with f (x ∷ xs) (y ∷ ys) e = omega (arith, length-zip_with f xs ys (omega (arith, e)))

pub get_or-zip_with : {A B C : Type 0} (f : A → B → C) (xs : List A) (ys : List B) (k : ℕ) (a : A) (b : B) (c : C) → k < length xs → k < length ys
    → get_or (zip_with f xs ys) k c ≡ f (get_or xs k a) (get_or ys k b)
get_or-zip_with f [] ys k a b c low high = absurd (omega (arith, low))
get_or-zip_with f (x ∷ xs) [] k a b c low high = absurd (omega (arith, high))
get_or-zip_with f (x ∷ xs) (y ∷ ys) zero a b c low high = refl
get_or-zip_with f (x ∷ xs) (y ∷ ys) (suc k) a b c low high = get_or-zip_with f xs ys k a b c (omega (arith, low)) (omega (arith, high))

-- two lists of which each element is that of the other's place
pub zip-length : {A B : Type 0} (R : A → B → Type 0) (xs : List A) (ys : List B) → AllZip R xs ys → length ys ≡ length xs
zip-length R [] [] all = refl
zip-length R [] (y ∷ ys) all = absurd all
zip-length R (x ∷ xs) [] all = absurd all
zip-length R (x ∷ xs) (y ∷ ys) all = omega (arith, zip-length R xs ys all.1)

pub zip-get : {A B : Type 0} (R : A → B → Type 0) (xs : List A) (ys : List B) (k : ℕ) (a : A) (b : B) → AllZip R xs ys → k < length xs → R (get_or xs k a) (get_or ys k b)
zip-get R [] ys k a b all low = absurd (omega (arith, low))
zip-get R (x ∷ xs) [] k a b all low = absurd all
zip-get R (x ∷ xs) (y ∷ ys) zero a b all low = all.0
zip-get R (x ∷ xs) (y ∷ ys) (suc k) a b all low = zip-get R xs ys k a b all.1 (omega (arith, low))

-- the columns below a header
pub length-columns_from : (j : ℕ) (names : Fields) (rows : List Fields) → length (columns_from j names rows) ≡ length names
length-columns_from j [] rows = refl
length-columns_from j (name ∷ names) rows = omega (arith, length-columns_from (j + 1) names rows)

pub get_or-columns_from : (j : ℕ) (names : Fields) (rows : List Fields) (k : ℕ) (d : Column) → k < length names
    → get_or (columns_from j names rows) k d ≡ record { name = get_or names k []; kind = kind_of (column_at (j + k) rows) }
get_or-columns_from j [] rows k d low = absurd (omega (arith, low))
get_or-columns_from j (name ∷ names) rows zero d low = let e : j + 0 ≡ j = omega arith in rw e refl
get_or-columns_from j (name ∷ names) rows (suc k) d low =
    let e : j + 1 + k ≡ j + suc k = omega arith in
    rw (← e) (get_or-columns_from (j + 1) names rows k d (omega (arith, low)))

pub length-column_at : (k : ℕ) (rows : List Fields) → length (column_at k rows) ≡ length rows
length-column_at k rows = length-map rows (λ (r : Fields). get_or r k [])

pub get_or-column_at : (k : ℕ) (rows : List Fields) (r : ℕ) → r < length rows → get_or (column_at k rows) r [] ≡ get_or (get_or rows r []) k []
get_or-column_at k rows r low = get_or-map (λ (x : Fields). get_or x k []) rows r [] [] low

code-there : (dict : Fields) (code : Option ℕ) (t : List ℕ) → IfSome code (λ c. c < length dict) → stands_for dict code ≡ t → (t ≡ []) ⊎ Contains dict t
code-there dict None t low e = inl (sym e)
code-there dict (Some c) t low e = inr (rw (← e) (Contains-get_or dict c [] low))

-- a column of texts has the dictionary of its fields
ranked-there : (texts dict : Fields) (codes : List (Option ℕ)) (t : List ℕ) → IsRanked texts dict codes → Contains texts t → (t ≡ []) ⊎ Contains dict t
ranked-there texts dict codes t ranked found =
    let place = found.0 in
    let same : get_or texts place [] ≡ t = get_or_default texts place [] t found.1 ∙ found.2 in
    let inside : place < length codes = omega (arith, found.1, ap length ranked.codes_stand, length-map codes (stands_for dict)) in
    let stands : stands_for dict (get_or codes place None) ≡ t =
    sym (get_or-map (stands_for dict) codes place None [] inside) ∙ ap (λ (l : Fields). get_or l place []) ranked.codes_stand ∙ same in
    code-there dict (get_or codes place None) t (All-get_or (λ (o : Option ℕ). IfSome o (λ c. c < length dict)) codes place None inside ranked.in_range) stands

dict-named : (fields texts dict : Fields) (codes : List (Option ℕ)) → IsRanked texts dict codes → All (λ t. (t ≢ []) × Contains fields t) texts → All (λ t. (t ≢ []) × Contains fields t) dict
dict-named fields texts dict codes ranked named =
    All-weaker (Contains texts) (λ t. (t ≢ []) × Contains fields t) (λ t found. All-contains (λ t. (t ≢ []) × Contains fields t) texts t named found) dict ranked.named

pub text-dict : (fields texts dict : Fields) (codes : List (Option ℕ)) → AreSame fields texts → All (λ t. (t ≢ []) × Contains fields t) texts → IsRanked texts dict codes
    → IsDictionary fields dict
text-dict fields texts dict codes same named ranked = record {
  rises = ranked.rises;
  named = dict-named fields texts dict codes ranked named;
  whole = All-weaker (λ f. (f ≡ []) ⊎ Contains texts f) (λ f. (f ≡ []) ⊎ Contains dict f)
      (λ f here. elim here [ inl empty_field ↦ inl empty_field | inr found ↦ ranked-there texts dict codes f ranked found ]) fields same.there;
}

-- one column more
pub columns-more : (names : Fields) (name : List ℕ) (typed : List Typed) (place : ℕ) (d : Typed) → place ≡ length names → place < length typed
    → columns_with (names ++ name ∷ []) typed ≡ columns_with names typed ++ record { name = name; kind = (get_or typed place d).kind } ∷ []
columns-more [] name [] place d e low = absurd (omega (arith, low))
columns-more [] name (t ∷ typed) place d e low = rw e refl
columns-more (n ∷ names) name [] place d e low = absurd (omega (arith, low))
columns-more (n ∷ names) name (t ∷ typed) zero d e low = absurd (omega (arith, e))
columns-more (n ∷ names) name (t ∷ typed) (suc place) d e low =
    ap (λ (cs : List Column). record { name = n; kind = t.kind } ∷ cs) (columns-more names name typed place d (omega (arith, e)) (omega (arith, low)))

text-filled : (t : List ℕ) → t ≢ [] → text t ≡ value_as kinds.Text t
text-filled [] some = absurd (some refl)
text-filled (c ∷ cs) some = refl

pub code-is : (dict : Fields) (code : Option ℕ) (field : List ℕ) → All (λ t. t ≢ []) dict → IfSome code (λ c. c < length dict) → stands_for dict code ≡ field
    → IsCell kinds.Text dict field (code_cell code)
code-is dict None field filled low e = record { value = rw (← e) refl; fits = tt }
code-is dict (Some c) field filled low e = record {
  value = rw (← e) (text-filled (get_or dict c []) (All-get_or (λ (t : List ℕ). t ≢ []) dict c [] low filled));
  fits = (refl, low);
}
