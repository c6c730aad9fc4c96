-- After the words: defaults, required places, and what the matches hold.
use Rattle.std.proofs.Common.{◌≡◌, ◌∙◌, ◌&&◌, ◌||◌, ◌⊎◌, inl, inr, ℕ, Bool, cond, true, false, not, refl, sym, ap, subst, List, [], ◌∷◌, ◌++◌, map, Option, Some, None, true≢false}
use Rattle.std.specs.Prelude.{slice_get}
use Rattle.std.specs.List.{find, fold, list_any}
use Rattle.std.specs.Option.{option_map, option_map_or, option_and_then}
use Rattle.std.specs.Str.{bytes_eq}
use Rattle.clap.specs.Facts.{explicit_source}
use Rattle.clap.specs.Walk.{Row, Rule, default_rows, first_of, has_row, reading_by, with_default, with_values}
use Rattle.clap.specs.Kinds.{Kinds, check_kinds}
use Rattle.clap.specs.Takes.{is_given}
use Rattle.clap.specs.Faults.{check_fault, default_fault, defaults_fault}
use Rattle.clap.specs.declared.builder.value_parser.Reading.{Reading}
use Rattle.clap.specs.declared.parser.matches.ValueSource.TheVariants.{DefaultValue}
use Rattle.clap.specs.Walk.{more_values}
use Rattle.command_words.specs.Pairs.{Known, Pairs, Text, has, value_of}
use Rattle.command_words.specs.Matched.{is_true, takes_text}
use Rattle.command_words.proofs.Rules.{batch, passes_both, place_rule, places, row-absent, row_for, rule_for, rules, shape, table}

-- ---- defaults pass

rule_default : (rows : List Row) (n : Text) (b : Bool) → default_fault rows (rule_for (record { name = n; valued = b })) ≡ []
rule_default rows n true = go (has_row n rows)
  where
    go : (h : Bool) → ◌≡◌ {A = Kinds} (cond (h || true) [] []) []
    go true = refl
    go false = refl
rule_default rows n false = go (has_row n rows)
  where
    go : (h : Bool) → ◌≡◌ {A = Kinds} (cond (h || false) [] []) []
    go true = refl
    go false = refl

place_default : (rows : List Row) (n : Text) (i : ℕ) → default_fault rows (place_rule n i) ≡ []
place_default rows n i = go (has_row n rows)
  where
    go : (h : Bool) → ◌≡◌ {A = Kinds} (cond (h || true) [] []) []
    go true = refl
    go false = refl

pub defaults_pass : (rows : List Row) (known : List Known) → defaults_fault rows (rules known) ≡ []
unfolding defaults_fault
defaults_pass rows [] = passes_both _ _ (place_default rows table 1) (passes_both _ _ (place_default (with_default rows (place_rule table 1)) batch 2) refl)
defaults_pass rows (k ∷ ks) = passes_both _ _ (rule_default rows k.name k.valued) (defaults_pass (with_default rows (rule_for k)) ks)

-- ---- a default is no use

abbrev find_row : Text → List Row → Option Row
find_row id rows = find (λ r. bytes_eq r.id id) rows

find-more : (id : Text) (rows : List Row) (row : Row) → find_row id (rows ++ row ∷ []) ≡ option_map_or (λ r. Some r) (find_row id rows) (cond (bytes_eq row.id id) (Some row) None)
find-more id [] row = refl
find-more id (r ∷ rs) row = go (bytes_eq r.id id) (find-more id rs row)
  where
    go : (b : Bool) → find_row id (rs ++ row ∷ []) ≡ option_map_or (λ x. Some x) (find_row id rs) (cond (bytes_eq row.id id) (Some row) None)
        → cond b (Some r) (find_row id (rs ++ row ∷ [])) ≡ option_map_or (λ x. Some x) (cond b (Some r) (find_row id rs)) (cond (bytes_eq row.id id) (Some row) None)
    go true e = refl
    go false e = e

abbrev default_row : Text → Reading → List Text → Row
default_row id how vs = record { id = id; values = vs; count = None; source = Some DefaultValue; reading = how }

-- the rows as they were, or one more row at the end, of a default
data Grows (a : Rule) (rows : List Row) : List Row → Type 0 where
  same : Grows a rows rows
  more : has_row a.id rows ≡ false → Grows a rows (rows ++ default_row a.id (reading_by a) a.defaults ∷ [])

grows : (a : Rule) (rows : List Row) → Grows a rows (with_default rows a)
grows a rows = go (has_row a.id rows) refl a.defaults refl
  where
    go : (b : Bool) → has_row a.id rows ≡ b → (vs : List Text) → a.defaults ≡ vs → Grows a rows (cond b rows (default_rows a.id (reading_by a) vs rows))
    go true e vs is = same
    go false e [] is = same
    go false e (v ∷ vs) is =
        let added : with_values a.id (reading_by a) DefaultValue (v ∷ vs) rows ≡ rows ++ default_row a.id (reading_by a) (v ∷ vs) ∷ []
        = row-absent a.id (more_values DefaultValue (v ∷ vs)) (default_row a.id (reading_by a) (v ∷ vs) ∷ []) rows e in
        subst (λ (x : List Row). Grows a rows x) (sym added) (subst (λ (y : List Text). Grows a rows (rows ++ default_row a.id (reading_by a) y ∷ [])) is (more e))

given-grows : (id : Text) (a : Rule) (rows new : List Row) → Grows a rows new → is_given id new ≡ is_given id rows
given-grows id a rows new same = refl
given-grows id a rows new (more e) = rw (find-more id rows (default_row a.id (reading_by a) a.defaults)) (go (find_row id rows) (bytes_eq a.id id))
  where
    go : (o : Option Row) (b : Bool)
        → option_map_or (λ r. explicit_source r.source) (option_map_or (λ r. Some r) o (cond b (Some (default_row a.id (reading_by a) a.defaults)) None)) false
        ≡ option_map_or (λ r. explicit_source r.source) o false
    go (Some r) b = refl
    go None true = refl
    go None false = refl

given-fold : (id : Text) (rs : List Rule) (rows : List Row) → is_given id (fold with_default rows rs) ≡ is_given id rows
given-fold id [] rows = refl
given-fold id (a ∷ rs) rows = given-fold id rs (with_default rows a) ∙ given-grows id a rows (with_default rows a) (grows a rows)

given-pairs : (id : Text) (ps : Pairs) → is_given id (map row_for ps) ≡ has id ps
given-pairs id [] = refl
given-pairs id (p ∷ ps) = go (bytes_eq p.0 id) (given-pairs id ps)
  where
    go : (b : Bool) → is_given id (map row_for ps) ≡ has id ps
        → option_map_or (λ r. explicit_source r.source) (cond b (Some (row_for p)) (find_row id (map row_for ps))) false ≡ (b || has id ps)
    go true e = refl
    go false e = e

missing : (known : List Known) (rows : List Row)
    → list_any (λ a. a.required && not (is_given a.id rows)) (rules known) ≡ (not (is_given table rows) || (not (is_given batch rows) || false))
missing [] rows = refl
missing (k ∷ ks) rows = missing ks rows

-- the last checks: both places are there
pub check_is : (name : Text) (known : List Known) (rows : List Row) (ps : Pairs) → rows ≡ map row_for ps
    → check_fault (shape name known) (fold with_default rows (rules known)) false ≡ check_kinds false false (not (has table ps) || (not (has batch ps) || false))
check_is name known rows ps e =
    ap (check_kinds false false) (missing known (fold with_default rows (rules known)) ∙ both)
  where
    is : (id : Text) → is_given id (fold with_default rows (rules known)) ≡ has id ps
    is id = given-fold id (rules known) rows ∙ ap (is_given id) e ∙ given-pairs id ps

    both : (not (is_given table (fold with_default rows (rules known))) || (not (is_given batch (fold with_default rows (rules known))) || false))
        ≡ (not (has table ps) || (not (has batch ps) || false))
    both = rw (is table, is batch) refl

-- ---- what the matches hold

first-grows : {X : Type 0} (g : Option Text → X) (id : Text) (a : Rule) (rows new : List Row) → g (slice_get a.defaults 0) ≡ g None ⊎ bytes_eq a.id id ≡ false → Grows a rows new
    → g (first_of id new) ≡ g (first_of id rows)
first-grows g id a rows new quiet same = refl
first-grows {X} g id a rows new quiet (more e) = rw (find-more id rows (default_row a.id (reading_by a) a.defaults)) (go (find_row id rows) (bytes_eq a.id id) refl)
  where
    go : (o : Option Row) (b : Bool) → bytes_eq a.id id ≡ b
        → g (option_and_then (λ (r : Row). slice_get r.values 0) (option_map_or (λ r. Some r) o (cond b (Some (default_row a.id (reading_by a) a.defaults)) None)))
        ≡ g (option_and_then (λ (r : Row). slice_get r.values 0) o)
    go (Some r) b is = refl
    go None true is = elim quiet [ inl h ↦ h | inr h ↦ absurd (true≢false (sym is ∙ h)) ]
    go None false is = refl

places-first : {X : Type 0} (g : Option Text → X) (id : Text) (rows : List Row) → g (first_of id (fold with_default rows places)) ≡ g (first_of id rows)
places-first g id rows =
    first-grows g id (place_rule batch 2) (with_default rows (place_rule table 1)) _ (inl refl) (grows (place_rule batch 2) (with_default rows (place_rule table 1)))
    ∙ first-grows g id (place_rule table 1) rows _ (inl refl) (grows (place_rule table 1) rows)

flag_quiet : (b : Bool) → is_true (slice_get (rule_for (record { name = []; valued = b })).defaults 0) ≡ is_true None
flag_quiet true = refl
flag_quiet false = refl

pub flag-first : (id : Text) (known : List Known) (rows : List Row) → is_true (first_of id (fold with_default rows (rules known))) ≡ is_true (first_of id rows)
flag-first id [] rows = places-first is_true id rows
flag-first id (k ∷ ks) rows = flag-first id ks (with_default rows (rule_for k))
    ∙ first-grows is_true id (rule_for k) rows _ (inl (flag_quiet k.valued)) (grows (rule_for k) rows)

option_quiet : (n id : Text) (b : Bool) → (not (bytes_eq n id) || b) ≡ true
    → (slice_get (rule_for (record { name = n; valued = b })).defaults 0 ≡ None) ⊎ (bytes_eq n id ≡ false)
option_quiet n id true e = inl refl
option_quiet n id false e = inr (go (bytes_eq n id) e)
  where
    go : (h : Bool) → (not h || false) ≡ true → h ≡ false
    go true e = absurd (true≢false (sym e))
    go false e = refl

both_true : (a b : Bool) → (a && b) ≡ true → (a ≡ true) × (b ≡ true)
both_true true b e = (refl, e)
both_true false b e = absurd (true≢false (sym e))

pub option-first : (id : Text) (known : List Known) → takes_text id known ≡ true → (rows : List Row) → first_of id (fold with_default rows (rules known)) ≡ first_of id rows
option-first id [] q rows = places-first (λ o. o) id rows
option-first id (k ∷ ks) q rows =
    let parts = both_true (not (bytes_eq k.name id) || k.valued) (takes_text id ks) q in
    option-first id ks parts.1 (with_default rows (rule_for k))
    ∙ first-grows (λ o. o) id (rule_for k) rows _ (option_quiet k.name id k.valued parts.0) (grows (rule_for k) rows)

pub first-pairs : (id : Text) (ps : Pairs) → first_of id (map row_for ps) ≡ value_of id ps
first-pairs id [] = refl
first-pairs id (p ∷ ps) = go (bytes_eq p.0 id) (first-pairs id ps)
  where
    go : (b : Bool) → first_of id (map row_for ps) ≡ value_of id ps
        → option_and_then (λ (r : Row). slice_get r.values 0) (cond b (Some (row_for p)) (find_row id (map row_for ps)))
        ≡ option_map (λ q. q.1) (cond b (Some p) (find (λ q. bytes_eq q.0 id) ps))
    go true e = refl
    go false e = e
