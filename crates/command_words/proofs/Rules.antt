-- The rules of the command that reads the words, as clap builds them, and what it looks up in them.
use Rattle.std.proofs.Common.{◌≡◌, ◌∙◌, ◌||◌, ℕ, Bool, cond, true, false, refl, ap, List, [], ◌∷◌, ◌++◌, map, Some, None, codes, append-nil}
use Rattle.std.specs.Option.{option_map, option_map_or}
use Rattle.std.specs.Str.{bytes_eq}
use Rattle.clap.specs.Walk.{Row, Rule, arg_by_id, arg_by_index, arg_by_long, arg_by_short, at_row, has_row, more_values, used, with_values, without}
use Rattle.clap.specs.Simple.{Shape, new_rule, new_shape}
use Rattle.clap.specs.Kinds.{Kinds, or_else}
use Rattle.clap.specs.Faults.{repeat_fault, use_fault}
use Rattle.clap.specs.declared.builder.action.ArgAction.TheVariants.{Set, SetTrue}
use Rattle.clap.specs.declared.builder.value_parser.ValueParser.TheVariants as vp
use Rattle.clap.specs.declared.builder.value_parser.Reading.TheVariants as reading
use Rattle.clap.specs.declared.parser.matches.ValueSource.TheVariants.{CommandLine}
use Rattle.command_words.specs.Pairs.{Known, Pairs, Text, has, known_as}

abbrev pub table : Text
table = codes "TABLE"

abbrev pub batch : Text
batch = codes "BATCH"

abbrev pub rule_for : Known → Rule
rule_for k = record {
  id = k.name;
  long = Some k.name;
  aliases = [];
  short = None;
  short_aliases = [];
  index = None;
  action = Some (cond k.valued Set SetTrue);
  range = Some (record { start_inclusive = cond k.valued 1 0; end_inclusive = cond k.valued 1 0 });
  value_names = 0;
  defaults = cond k.valued [] (codes "false" ∷ []);
  missing = cond k.valued [] (codes "true" ∷ []);
  trailing_var_arg = false;
  parser = Some (cond k.valued vp.String vp.Bool);
  ignore_case = false;
  required = false;
  is_simple = true;
  is_free = true;
}

abbrev pub place_rule : Text → ℕ → Rule
place_rule name i = record (new_rule name) {
  index = Some i;
  action = Some Set;
  range = Some (record { start_inclusive = 1; end_inclusive = 1 });
  parser = Some vp.String;
  required = true;
}

abbrev pub places : List Rule
places = place_rule table 1 ∷ place_rule batch 2 ∷ []

abbrev pub rules : List Known → List Rule
rules known = map rule_for known ++ places

abbrev pub shape : Text → List Known → Shape
shape name known = record (new_shape name) {
  rules = rules known;
  no_binary_name = true;
  disable_help_flag = true;
  disable_help_subcommand = true;
  is_built = true;
}

-- ---- look-ups

pub by_long : (known : List Known) (name : Text) → arg_by_long (rules known) name ≡ option_map rule_for (known_as known name)
by_long [] name = refl
by_long (k ∷ ks) name = go (bytes_eq k.name name) (by_long ks name)
  where
    go : (b : Bool) → arg_by_long (rules ks) name ≡ option_map rule_for (known_as ks name) → cond (b || false) (Some (rule_for k)) (arg_by_long (rules ks) name) ≡ option_map rule_for (cond b (Some k) (known_as ks name))
    go true e = refl
    go false e = e

pub by_id : (known : List Known) (name : Text) → arg_by_id (rules known) name ≡ option_map_or (λ k. Some (rule_for k)) (known_as known name) (arg_by_id places name)
by_id [] name = refl
by_id (k ∷ ks) name = go (bytes_eq k.name name) (by_id ks name)
  where
    go : (b : Bool) → arg_by_id (rules ks) name ≡ option_map_or (λ x. Some (rule_for x)) (known_as ks name) (arg_by_id places name) → cond b (Some (rule_for k)) (arg_by_id (rules ks) name) ≡ option_map_or (λ x. Some (rule_for x)) (cond b (Some k) (known_as ks name)) (arg_by_id places name)
    go true e = refl
    go false e = e

pub by_index : (known : List Known) (i : ℕ) → arg_by_index (rules known) i ≡ arg_by_index places i
by_index [] i = refl
by_index (k ∷ ks) i = by_index ks i

pub by_short : (known : List Known) (x : ℕ) → arg_by_short (rules known) x ≡ None
by_short [] x = refl
by_short (k ∷ ks) x = by_short ks x

-- ---- kinds

abbrev pub Fails : Kinds → Type 0
Fails ks = ks ≡ [] → ⊥

pub fails_left : (a b : Kinds) → Fails a → Fails (or_else a b)
fails_left [] b f e = f refl
fails_left (k ∷ ks) b f e = f e

pub fails_right : (a b : Kinds) → Fails b → Fails (or_else a b)
fails_right [] b f e = f e
fails_right (k ∷ ks) b f e = cc

pub passes_both : (a b : Kinds) → a ≡ [] → b ≡ [] → or_else a b ≡ []
passes_both a b p q = ap (λ x. or_else x b) p ∙ q

-- ---- rows

abbrev pub row_for : Text × Text → Row
row_for p = record {
  id = p.0;
  values = p.1 ∷ [];
  count = None;
  source = Some CommandLine;
  reading = reading.AsWritten;
}

pub has-rows : (id : Text) (ps : Pairs) → has_row id (map row_for ps) ≡ has id ps
has-rows id [] = refl
has-rows id (p ∷ ps) = ap (λ b. bytes_eq p.0 id || b) (has-rows id ps)

pub has-more : (id name value : Text) (ps : Pairs) → has id (ps ++ (name, value) ∷ []) ≡ (has id ps || bytes_eq name id)
has-more id name value [] = go (bytes_eq name id)
  where
    go : (b : Bool) → (b || false) ≡ b
    go true = refl
    go false = refl
has-more id name value (p ∷ ps) = go (bytes_eq p.0 id) (has-more id name value ps)
  where
    go : (b : Bool) → has id (ps ++ (name, value) ∷ []) ≡ (has id ps || bytes_eq name id) → (b || has id (ps ++ (name, value) ∷ [])) ≡ ((b || has id ps) || bytes_eq name id)
    go true e = refl
    go false e = e

pub row-absent : (id : Text) (change : Row → List Row) (missing rows : List Row) → has_row id rows ≡ false → at_row id change missing rows ≡ rows ++ missing
row-absent id change missing [] e = refl
row-absent id change missing (r ∷ rs) e = go (bytes_eq r.id id) e (λ h. row-absent id change missing rs h)
  where
    go : (b : Bool) → (b || has_row id rs) ≡ false → (has_row id rs ≡ false → at_row id change missing rs ≡ rs ++ missing) → cond b (change r ++ rs) (r ∷ at_row id change missing rs) ≡ r ∷ (rs ++ missing)
    go true h next = cc
    go false h next = ap (λ t. r ∷ t) (next h)

pub map-more : (name value : Text) (ps : Pairs) → map row_for ps ++ row_for (name, value) ∷ [] ≡ map row_for (ps ++ (name, value) ∷ [])
map-more name value [] = refl
map-more name value (p ∷ ps) = ap (λ t. row_for p ∷ t) (map-more name value ps)

pub without-absent : (id : Text) (rows : List Row) → has_row id rows ≡ false → without id rows ≡ rows
without-absent id rows e = row-absent id (λ _. []) [] rows e ∙ append-nil rows

values-absent : (name value : Text) (rows : List Row) → has_row name rows ≡ false
    → with_values name reading.AsWritten CommandLine (value ∷ []) rows ≡ rows ++ row_for (name, value) ∷ []
values-absent name value rows e = row-absent name (more_values CommandLine (value ∷ [])) (row_for (name, value) ∷ []) rows e

-- a first use adds a row
pub used-option : (name value : Text) (ps : Pairs) → has name ps ≡ false
    → used (rule_for (record { name = name; valued = true })) (value ∷ []) (map row_for ps) ≡ map row_for (ps ++ (name, value) ∷ [])
used-option name value ps e =
    let absent : has_row name (map row_for ps) ≡ false = has-rows name ps ∙ e in
    let rest : without name (map row_for ps) ≡ map row_for ps = without-absent name (map row_for ps) absent in
    rw rest (values-absent name value (map row_for ps) absent ∙ map-more name value ps)

pub used-flag : (name : Text) (ps : Pairs) → has name ps ≡ false
    → used (rule_for (record { name = name; valued = false })) [] (map row_for ps) ≡ map row_for (ps ++ (name, codes "true") ∷ [])
used-flag name ps e =
    let absent : has_row name (map row_for ps) ≡ false = has-rows name ps ∙ e in
    let rest : without name (map row_for ps) ≡ map row_for ps = without-absent name (map row_for ps) absent in
    rw rest (values-absent name (codes "true") (map row_for ps) absent ∙ map-more name (codes "true") ps)

pub used-place : (name value : Text) (i : ℕ) (ps : Pairs) → has name ps ≡ false
    → used (place_rule name i) (value ∷ []) (map row_for ps) ≡ map row_for (ps ++ (name, value) ∷ [])
used-place name value i ps e =
    let absent : has_row name (map row_for ps) ≡ false = has-rows name ps ∙ e in
    let rest : without name (map row_for ps) ≡ map row_for ps = without-absent name (map row_for ps) absent in
    rw rest (values-absent name value (map row_for ps) absent ∙ map-more name value ps)

-- a second use fails, a first one passes
repeats : (name : Text) (ps : Pairs) → has name ps ≡ true → Fails (repeat_fault false name (map row_for ps))
repeats name ps e = rw (has-rows name ps ∙ e) (λ h. cc)

fresh : (name : Text) (ps : Pairs) → has name ps ≡ false → repeat_fault false name (map row_for ps) ≡ []
fresh name ps e = rw (has-rows name ps ∙ e) refl

pub option-repeats : (name value : Text) (ps : Pairs) → has name ps ≡ true
    → Fails (use_fault false (rule_for (record { name = name; valued = true })) (value ∷ []) (map row_for ps))
option-repeats name value ps e = fails_left _ _ (repeats name ps e)

pub option-passes : (name value : Text) (ps : Pairs) → has name ps ≡ false
    → use_fault false (rule_for (record { name = name; valued = true })) (value ∷ []) (map row_for ps) ≡ []
option-passes name value ps e = passes_both _ _ (fresh name ps e) refl

pub flag-repeats : (name : Text) (ps : Pairs) → has name ps ≡ true
    → Fails (use_fault false (rule_for (record { name = name; valued = false })) [] (map row_for ps))
flag-repeats name ps e = fails_left _ _ (repeats name ps e)

pub flag-passes : (name : Text) (ps : Pairs) → has name ps ≡ false
    → use_fault false (rule_for (record { name = name; valued = false })) [] (map row_for ps) ≡ []
flag-passes name ps e = passes_both _ _ (fresh name ps e) refl

pub place-passes : (name value : Text) (i : ℕ) (ps : Pairs) → has name ps ≡ false → use_fault false (place_rule name i) (value ∷ []) (map row_for ps) ≡ []
place-passes name value i ps e = passes_both _ _ (fresh name ps e) refl
