-- Texts in rising order with the places of their names, by the keys that were sorted.
use Rattle.std.proofs.Common.{◌≡◌, ◌≢◌, ◌∙◌, ◌-◌, ◌<◌, ℕ, List, [], arith, sym, ap, length, get_or, false}
use Rattle.std.specs.Prelude.{Option}
use Rattle.std.specs.Ordering.{is_gt}
use Rattle.std.proofs.lemmas.List.{get_or-map, length-map}
use Rattle.std.proofs.lemmas.List.Elements.{All-get_or}
use Rattle.table_core.specs.Dict.{text_cmp}
use Rattle.csv_load.specs.Ranks.{AreInOrder, IsRanked, Key}
use Rattle.csv_load.proofs.Assigning.{Assigned, assigned-end, may_add}
use Rattle.csv_load.proofs.Keys.{NamesTrue}

no_key : Key
no_key = ((0, 0), record { ref_ptr = (0, 0); now = [] }, 0)

keys : (names texts : List (List ℕ)) (places : List ℕ) (o : AreInOrder names texts places) → length o.order ≡ length places
keys names texts places o = sym (ap (length {A = ℕ}) o.places_are ∙ length-map o.order (λ (p : Key). p.2))

pub as-many : (names texts : List (List ℕ)) (places : List ℕ) → AreInOrder names texts places → length places ≡ length texts
as-many names texts places o = sym (ap (length {A = List ℕ}) o.texts_are ∙ length-map o.order (λ (p : Key). p.1.now) ∙ keys names texts places o)

text-at : (names texts : List (List ℕ)) (places : List ℕ) (o : AreInOrder names texts places) (i : ℕ) → i < length places → get_or texts i [] ≡ (get_or o.order i no_key).1.now
text-at names texts places o i low = rw o.texts_are (get_or-map (λ (p : Key). p.1.now) o.order i no_key [] (omega (arith, low, keys names texts places o)))

place-at : (names texts : List (List ℕ)) (places : List ℕ) (o : AreInOrder names texts places) (i : ℕ) → i < length places → get_or places i 0 ≡ (get_or o.order i no_key).2
place-at names texts places o i low = rw o.places_are (get_or-map (λ (p : Key). p.2) o.order i no_key 0 (omega (arith, low, keys names texts places o)))

-- a text is that of its name, and isn't empty
pub named-at : (names texts : List (List ℕ)) (places : List ℕ) → AreInOrder names texts places → (i : ℕ) → i < length places
    → (get_or places i 0 < length names) × (get_or texts i [] ≡ get_or names (get_or places i 0) []) × (get_or texts i [] ≢ [])
named-at names texts places o i low = rw (text-at names texts places o i low, place-at names texts places o i low)
    (All-get_or (NamesTrue names) o.order i no_key (omega (arith, low, keys names texts places o)) o.keyed.true_name)

-- the next text isn't below the last one of the dictionary
pub may-push : (names texts : List (List ℕ)) (places : List ℕ) → AreInOrder names texts places → (i : ℕ) (dict : List (List ℕ)) → i < length places
    → (0 < i) × (get_or dict (length dict - 1) [] ≡ get_or texts (i - 1) []) → is_gt (text_cmp (get_or dict (length dict - 1) []) (get_or texts i [])) ≡ false
may-push names texts places o i dict low last = rw (text-at names texts places o i low)
    (may_add o.order i no_key dict o.sorted o.keyed.fronts (omega (arith, low, keys names texts places o)) (rw o.texts_are at last))

pub ranked-end : (names texts : List (List ℕ)) (places : List ℕ) (dict : List (List ℕ)) (codes : List (Option ℕ)) (o : AreInOrder names texts places)
    → Assigned names texts places (length places) dict codes → IsRanked names dict codes
ranked-end names texts places dict codes o is = assigned-end names o.order dict codes
    (rw (o.texts_are, o.places_are, length-map o.order (λ (p : Key). p.2)) at is) o.keyed
