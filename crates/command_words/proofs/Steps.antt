-- One word: what clap's walk makes of it, and what `step` does.
use Rattle.std.proofs.Common.{◌≡◌, ◌&&◌, ◌⊎◌, ℕ, Bool, cond, true, false, refl, List, [], ◌∷◌, map, length, Option, Some, None, arith}
use Rattle.std.specs.Prelude.{slice_get, ◌==◌}
use Rattle.std.specs.Option.{option_map_or}
use Rattle.std.specs.Str.{chars, IsUtf8}
use Rattle.std.proofs.lemmas.Str.{IsUtf8-drop, IsCharBoundary-after_ascii, encodes-chars}
use Rattle.clap.specs.Walk.{Held, Row, Rule, Waiting, Walk, idle, is_pending, option, settled, settled_rows, takes_values, value}
use Rattle.clap.specs.Kinds.{Kinds, or_else}
use Rattle.clap.specs.Faults.{bundle_fault, bundle_step_fault, flags_fault, long_fault, positional_fault, settle_fault, step_fault, use_fault}
use Rattle.clap.specs.declared.error.kind.ErrorKind.TheVariants as kind
use Rattle.command_words.specs.Pairs.{Known, Mode, Pairs, Sofar, Text, closed, has, known_as, open_, wants}
use Rattle.command_words.proofs.Rules.{Fails, batch, by_index, by_short, fails_left, place_rule, row_for, rules, shape, table}

-- ---- where the walk stands

pub data Place : Type 0 where
  first_ : Place
  second_ : Place
  third_ : Place

abbrev pub number : Place → ℕ
number first_ = 1
number second_ = 2
number third_ = 3

-- which places were filled
abbrev pub Filled : Place → Pairs → Type 0
Filled first_ ps = (has table ps ≡ false) × (has batch ps ≡ false)
Filled second_ ps = (has table ps ≡ true) × (has batch ps ≡ false)
Filled third_ ps = (has table ps ≡ true) × (has batch ps ≡ true)

abbrev pub waiting_in : Mode → Waiting
waiting_in (wants name) = option name
waiting_in _ = idle

abbrev pub trailing_in : Mode → Bool
trailing_in closed = true
trailing_in _ = false

abbrev pub held_with : List Row → Option (Text × List Text) → Held
held_with r p = record { rows = r; pending = p; skip = 0 }

abbrev pub walk_at : Waiting → Bool → List Row → Option (Text × List Text) → ℕ → Walk
walk_at waiting trailing r p position = record { held = held_with r p; waiting = waiting; position = position; is_trailing = trailing; stopped = None }

abbrev pub at_mode : Mode → List Row → Option (Text × List Text) → ℕ → Walk
at_mode m r p position = walk_at (waiting_in m) (trailing_in m) r p position

-- what is pending passes, and the rows with it are those of the pairs
pub record Settles (known : List Known) (r : List Row) (p : Option (Text × List Text)) (ps : Pairs) : Type 0 where
  pub passes : settle_fault (rules known) false (held_with r p) ≡ []
  pub rows : settled_rows (rules known) p r ≡ map row_for ps

pub record Waits (known : List Known) (name : Text) (r : List Row) (p : Option (Text × List Text)) (ps : Pairs) : Type 0 where
  pub pending : p ≡ Some (name, [])
  pub rows : r ≡ map row_for ps
  pub knows : known_as known name ≡ Some (record { name = name; valued = true })

abbrev pub Holds : List Known → Mode → List Row → Option (Text × List Text) → Pairs → Type 0
Holds known (wants name) r p ps = Waits known name r p ps
Holds known open_ r p ps = Settles known r p ps
Holds known closed r p ps = Settles known r p ps

pub record Related (known : List Known) (after : Walk) (t : Sofar) : Type 0 where
  pub r : List Row
  pub p : Option (Text × List Text)
  pub place : Place
  pub is : after ≡ at_mode t.mode r p (number place)
  pub holds : Holds known t.mode r p t.pairs
  pub filled : Filled place t.pairs

abbrev pub Calm : Waiting → Bool → Type 0
Calm waiting trailing = (trailing ≡ true) ⊎ (waiting ≡ idle)

-- what is pending fails, and no word can mend it
pub record Doomed (known : List Known) (after : Walk) : Type 0 where
  pub waiting : Waiting
  pub trailing : Bool
  pub r : List Row
  pub p : Option (Text × List Text)
  pub position : ℕ
  pub is : after ≡ walk_at waiting trailing r p position
  pub calm : Calm waiting trailing
  pub fails : Fails (settle_fault (rules known) false (held_with r p))

abbrev pub Fits : List Known → Option Sofar → Kinds → Walk → Type 0
Fits known None turn after = Fails turn ⊎ Doomed known after
Fits known (Some t) turn after = (turn ≡ []) × Related known after t

-- ---- failures

pub react_fails : (known : List Known) (a : Rule) (values : List Text) (h : Held) → Fails (settle_fault (rules known) false h)
    → Fails (or_else (settle_fault (rules known) false h) (use_fault false a values (settled (rules known) h).rows))
react_fails known a values h f = fails_left _ _ f

pub long_fails : (known : List Known) (o : Option Rule) (v : Option Text) (h : Held) → Fails (settle_fault (rules known) false h) → Fails (long_fault (rules known) false o v h)
long_fails known None v h f = λ e. cc
long_fails known (Some a) None h f = go (takes_values a)
  where
    go : (b : Bool) → Fails (cond b (settle_fault (rules known) false h) (or_else (settle_fault (rules known) false h) (use_fault false a [] (settled (rules known) h).rows)))
    go true = f
    go false = react_fails known a [] h f
long_fails known (Some a) (Some v) h f = go (takes_values a)
  where
    go : (b : Bool) → Fails (cond b (or_else (settle_fault (rules known) false h) (use_fault false a (v ∷ []) (settled (rules known) h).rows)) (kind.TooManyValues ∷ []))
    go true = react_fails known a (v ∷ []) h f
    go false = λ e. cc

some_char : (bs : List ℕ) (b : ℕ) (rest : List ℕ) → bs ≡ b ∷ rest → IsUtf8 bs → chars bs ≡ [] → ⊥
some_char bs b rest is u e =
    let spelled = encodes-chars bs u in
    let none : [] ≡ bs = rw e at spelled in
    cc

after_dash : (y : ℕ) (ys : List ℕ) → IsUtf8 (45 ∷ y ∷ ys) → IsUtf8 (y ∷ ys)
after_dash y ys u = IsUtf8-drop (45 ∷ y ∷ ys) 1 u (IsCharBoundary-after_ascii (45 ∷ y ∷ ys) 0 u (omega arith) (omega arith))

pub bundle_fails : (known : List Known) (y : ℕ) (ys : List ℕ) (r : List Row) (p : Option (Text × List Text)) → IsUtf8 (45 ∷ y ∷ ys)
    → Fails (bundle_fault (rules known) false (y ∷ ys) (held_with r p))
unfolding flags_fault
bundle_fails known y ys r p u = go (chars (y ∷ ys)) (some_char (y ∷ ys) y ys refl (after_dash y ys u))
  where
    go : (cs : List ℕ) → (cs ≡ [] → ⊥)
        → Fails (bundle_step_fault (rules known) false (slice_get cs 0) (y ∷ ys) 0 (held_with r p) (flags_fault (rules known) false (length ys)))
    go [] none = absurd (none refl)
    go (c ∷ cs) none = rw (by_short known c) (λ e. cc)

pub and-false : (b : Bool) → (b && false) ≡ false
and-false true = refl
and-false false = refl

pub place_fails : (name : Text) (known : List Known) (position : ℕ) (h : Held) → Fails (settle_fault (rules known) false h)
    → Fails (step_fault (shape name known) position h value)
place_fails name known position h f = rw (by_index known position) (go (1 == position) (2 == position))
  where
    go : (a b : Bool) → Fails (option_map_or (λ (x : Rule). positional_fault (rules known) false x h) (cond a (Some (place_rule table 1)) (cond b (Some (place_rule batch 2)) None))
        (kind.UnknownArgument ∷ []))
    go true b = rw (and-false (is_pending (place_rule table 1) h.pending)) f
    go false true = rw (and-false (is_pending (place_rule batch 2) h.pending)) f
    go false false = λ e. cc
