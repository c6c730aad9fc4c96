-- Where groups are kept: a place for each key, in key order, and the running values at each place.
use Rattle.std.specs.Prelude.{◌≡◌, ◌<◌, ◌≤◌, ◌^◌, ◌==◌, ◌||◌, nat_lt, ℕ, Bool, true, false}
use Rattle.std.specs.Prelude.{is_some, take, filter, if◌then◌else◌, List, [], ◌∷◌, ◌++◌, length}
use Rattle.std.specs.Prelude.{map, Option, Some, None, slice_index_or, All, MatchOption, Vec, ℤ}
use Rattle.std.specs.Global.{Global}
use Rattle.std.specs.Int.{bit_at}
use Rattle.std.specs.declared.cmp.Ordering.TheVariants.{Less}
use Rattle.table_core.specs.declared.cell.Cell.{Cell}
use Rattle.table_sets.specs.declared.limits.TheConstants.{MOST_ROWS}
use Rattle.query_meaning.specs.declared.item.Item.{Item}
use Rattle.agg_groups.specs.declared.running.Running.{Running}
use Rattle.query_meaning.specs.Cells.{codes}
use Rattle.query_meaning.specs.Meaning.{same_key, key_cmp, key_of, first_some}
use Rattle.agg_groups.specs.declared.running.Running.TheVariants as running
use Rattle.agg_groups.specs.Running.{running_of, runnings, joins, HasRoom, all_shown, over_shown, FitsCell}
use Rattle.agg_groups.specs.declared.met.Met.{Met}
use Rattle.row_blocks.specs.Blocks.{BlockView, row_at}
use Rattle.agg_groups.specs.Blocks.{chosen_in}
use Rattle.agg_groups.specs.Groups.{Group}

-- the places of the keys, in key order, and the values at each place
pub record Placed : Type 0 where
  pub places : List (List Cell × ℕ)
  pub values : List (List Running)

abbrev pub values_at : List (List Running) → ℕ → List Running
values_at vs place = slice_index_or vs place []

-- the groups, in key order
abbrev pub seen : Placed → List Group
seen t = map (λ (e : List Cell × ℕ). (e.0, values_at t.values e.1)) t.places

-- the place of a key
abbrev pub place_at : List (List Cell × ℕ) → List Cell → Option ℕ
place_at [] q = None
place_at (e ∷ es) q = if same_key codes q e.0 then Some e.1 else place_at es q

-- each key stands before the next one
abbrev pub Below : List Cell → List (List Cell) → Type 0
Below p [] = Unit {0}
Below p (q ∷ qs) = (key_cmp codes p q ≡ Less) × Below p qs

abbrev pub Rising : List (List Cell) → Type 0
Rising [] = Unit {0}
Rising (p ∷ ps) = Below p ps × Rising ps

abbrev pub names : {V : Type 0} → List (List Cell × V) → List (List Cell)
names {V} es = map (λ (e : List Cell × V). e.0) es

abbrev pub AreBelow : ℕ → List (List Cell × ℕ) → Type 0
AreBelow n [] = Unit {0}
AreBelow n (e ∷ es) = (e.1 < n) × AreBelow n es

-- the keys rise, each has a place of its own, and each place has values
pub record IsPlaced (t : Placed) : Type 0 where
  pub rising : Rising (names t.places)
  pub below : AreBelow (length t.values) t.places
  pub apart : (p q : List Cell) (i : ℕ) → place_at t.places p ≡ Some i → place_at t.places q ≡ Some i → p ≡ q

-- the values at each place belong to m items over at most n rows
abbrev pub AreSound : ℕ → ℕ → List (List Running) → Type 0
AreSound n m vs = (i : ℕ) → i < length vs → (length (values_at vs i) ≡ m) × All (HasRoom n) (values_at vs i)

-- there are values at the place, of m items over at most n rows
pub record HasValues (n m place : ℕ) (vs : List (List Running)) : Type 0 where
  pub there : place < length vs
  pub same : length (values_at vs place) ≡ m
  pub room : All (HasRoom n) (values_at vs place)

-- values that belonged to m items, with room, still do
abbrev pub StaySound : ℕ → List (List Running) → List (List Running) → Type 0
StaySound m old new = (n : ℕ) → AreSound n m old → AreSound n m new

-- a place for a key that had none, with the values of no rows
pub record IsNewPlace (items : List Item) (key : List Cell) (place : ℕ) (old new : Placed) : Type 0 where
  pub is_last : place ≡ length old.values
  pub starts : new.values ≡ old.values ++ runnings items [] ∷ []
  pub placed : (q : List Cell)
      → place_at new.places q ≡ (if same_key codes q key then Some place else place_at old.places q)

-- the place of the key after it was looked for: the one that it had, or else a new one
abbrev pub IsPlaceFor : List Item → List Cell → ℕ → Placed → Placed → Type 0
IsPlaceFor items key place old new = MatchOption (place_at old.places key) (IsNewPlace items key place old new)
    (λ i. (place ≡ i) × (new ≡ old))

-- the running values that are kept at a key
abbrev pub at : List Group → List Cell → Option (List Running)
at [] q = None
at (g ∷ gs) q = if same_key codes q g.0 then Some g.1 else at gs q

-- the values at a key, or else those of no rows
abbrev pub base : List Item → Option (List Running) → List Running
base items None = runnings items []
base items (Some vs) = vs

-- the groups with the values ws at the key p, the others as before
abbrev pub Puts : List Cell → List Running → List Group → List Group → Type 0
Puts p ws old new = (q : List Cell) → at new q ≡ (if same_key codes q p then Some ws else at old q)

-- what is kept at a key of either, or of both
abbrev pub merged : List Item → Option (List Running) → Option (List Running) → Option (List Running)
merged items o None = o
merged items o (Some ss) = Some (joins items (base items o) ss)

-- what a map of keys and places, and values, are as plain lists
abbrev pub plain_places : List (Vec Cell Global × ℕ) → List (List Cell × ℕ)
plain_places es = map (λ (e : Vec Cell Global × ℕ). (e.0.items, e.1)) es

-- the place of the group met last, if it is known, is that of its key
abbrev pub IsLast : List Cell → Option ℕ → Placed → Type 0
IsLast key place t = (i : ℕ) → place ≡ Some i → place_at t.places key ≡ Some i

-- a key that is remembered has its place
abbrev pub IsMet : ℕ → Placed → Option Met → Type 0
IsMet width t None = Unit {0}
IsMet width t (Some m) = place_at t.places (take width (m.first ∷ m.second ∷ [])) ≡ Some m.place

-- all keys that are remembered, of so many cells, have their places
abbrev pub AreMet : ℕ → Placed → List (Option Met) → Type 0
AreMet width t slots = All (IsMet width t) slots

-- whether a key stands in a list
abbrev pub has_key : List (List Cell) → List Cell → Bool
has_key [] q = false
has_key (p ∷ ps) q = same_key codes q p || has_key ps q

-- these keys have places beside those that had one, and no others
abbrev pub HasNamed : List (List Cell × ℕ) → List (List Cell) → List (List Cell × ℕ) → Type 0
HasNamed old keys new = (q : List Cell) → is_some (place_at new q) ≡ (is_some (place_at old q) || has_key keys q)

-- each of these keys has a place
abbrev pub HavePlaces : List (List Cell) → List (List Cell × ℕ) → Type 0
HavePlaces keys places = (q : List Cell) → has_key keys q ≡ true → is_some (place_at places q) ≡ true

-- a key keeps its place
abbrev pub KeepsPlaces : List (List Cell × ℕ) → List (List Cell × ℕ) → Type 0
KeepsPlaces old new = (q : List Cell) (i : ℕ) → place_at old q ≡ Some i → place_at new q ≡ Some i

-- new places with the values of no rows, and what there was as it was
pub record HasGrown (items : List Item) (old new : Placed) : Type 0 where
  pub kept : KeepsPlaces old.places new.places
  pub first : (q : List Cell) (i : ℕ) → place_at new.places q ≡ Some i → i < length old.values
      → place_at old.places q ≡ Some i
  pub long : length old.values ≤ length new.values
  pub values : take (length old.values) new.values ≡ old.values
  pub base : (q : List Cell) → base items (at (seen new) q) ≡ base items (at (seen old) q)

-- each chosen row of a block has the place of its key
abbrev pub AreFound : List ℕ → BlockView → ℕ → List ℕ → Placed → Type 0
AreFound keys b word places t = (i : ℕ) → i < b.count → bit_at word i ≡ 1
    → place_at t.places (key_of codes keys (row_at b i)) ≡ Some (slice_index_or places i 0)

-- the key of each of these rows has a place
abbrev pub KnowsRows : List ℕ → List (List Cell) → Placed → Type 0
KnowsRows keys rows t = All (λ row. is_some (place_at t.places (key_of codes keys row)) ≡ true) rows

-- the chosen rows that f picks are those with this place
abbrev pub PicksPlace : BlockView → ℕ → List ℕ → ℕ → (List Cell → Bool) → Type 0
PicksPlace b word places p f = (i : ℕ) → i < b.count → bit_at word i ≡ 1
    → (slice_index_or places i 0 == p) ≡ f (row_at b i)

-- the values over the rows of each place, with the chosen rows of that place
abbrev pub AddsRows : List Item → BlockView → ℕ → List ℕ → List (List Running) → List (List Running) → Type 0
AddsRows items b word places old new = (p : ℕ) (f : List Cell → Bool) (rows : List (List Cell)) → p < length old
    → PicksPlace b word places p f
    → values_at old p ≡ runnings items rows → values_at new p ≡ runnings items (rows ++ filter f (chosen_in b word))

-- the value of the item with the number k at a place
abbrev pub value_at : List (List Running) → ℕ → ℕ → Running
value_at vs p k = slice_index_or (values_at vs p) k running.Nothing

-- each place has a value of the item with the number k, over at most n rows
pub record HasItem (n k : ℕ) (vs : List (List Running)) : Type 0 where
  pub there : (p : ℕ) → p < length vs → k < length (values_at vs p)
  pub room : (p : ℕ) → p < length vs → HasRoom n (value_at vs p k)

-- the values of an item, the one with the number k, over the rows of each place, with those of these rows that have
-- that place, over at most n rows; all other values stay
pub record AddsItem (item : Item) (k n : ℕ) (b : BlockView) (word : ℕ) (places : List ℕ) (more : List (List Cell))
    (old new : List (List Running)) : Type 0 where
  pub long : length new ≡ length old
  pub same : (p : ℕ) → length (values_at new p) ≡ length (values_at old p)
  pub others : (p j : ℕ) → (j ≡ k → ⊥) → value_at new p j ≡ value_at old p j
  pub room : (p : ℕ) → p < length old → HasRoom n (value_at new p k)
  pub added : (p : ℕ) (f : List Cell → Bool) (rows : List (List Cell)) → p < length old → PicksPlace b word places p f
      → value_at old p k ≡ running_of rows item → value_at new p k ≡ running_of (rows ++ filter f more) item

-- the places below n
abbrev pub first_places : ℕ → List (List Cell × ℕ) → List (List Cell × ℕ)
first_places n es = filter (λ (e : List Cell × ℕ). nat_lt e.1 n) es

-- the result rows of groups
abbrev pub result_rows : List Item → List Group → List (List Cell)
result_rows items gs = map (λ (g : Group). all_shown g.0 items g.1) gs

-- the first sum of groups that is no whole number of 64 bits
abbrev pub first_over : List Group → Option (ℕ × ℤ)
first_over gs = first_some (λ (g : Group). over_shown 1 g.1) gs

-- the cells of groups can be written
abbrev pub AllFit : List Group → Type 0
AllFit [] = Unit {0}
AllFit (g ∷ gs) = All FitsCell g.1 × AllFit gs

-- the values at a key, if there are any, belong to m items over at most n rows
abbrev pub HasRoomAt : ℕ → ℕ → Option (List Running) → Type 0
HasRoomAt n m None = Unit {0}
HasRoomAt n m (Some vs) = (length vs ≡ m) × All (HasRoom n) vs

-- places of keys of so many cells can be looked for: what is remembered of a table is so
pub record IsReady (width : ℕ) (key : List Cell) (place : Option ℕ) (slots : List (Option Met))
    (t : Placed) : Type 0 where
  pub long : length key ≡ width
  pub placed : IsPlaced t
  pub last : IsLast key place t
  pub met : AreMet width t slots

-- what the parts of kept groups are to one another: few rows, few items, values with room, and groups met lately that
-- are there
pub record IsKept (items : List Item) (keys : List ℕ) (rows : ℕ) (key : List Cell) (place : Option ℕ)
    (slots : List (Option Met)) (t : Placed) : Type 0 where
  pub few : rows ≤ MOST_ROWS
  pub short : length items < 2 ^ 32
  pub ready : IsReady (length keys) key place slots t
  pub sound : AreSound rows (length items) t.values

-- the groups of no rows: none, but for the one group of a query without key columns
abbrev pub IsFirst : List Item → List ℕ → Placed → Type 0
IsFirst items [] t = (q : List Cell) → at (seen t) q ≡ (if same_key codes q [] then Some (runnings items []) else None)
IsFirst items (x ∷ keys) t = seen t ≡ []
