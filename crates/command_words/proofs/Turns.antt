-- Each kind of word, in each mode.
use Rattle.std.proofs.Common.{◌≡◌, ◌∙◌, ◌||◌, inl, inr, ℕ, Bool, cond, true, false, refl, sym, ap, subst, List, [], ◌∷◌, ◌++◌, map, Option, Some, None, codes}
use Rattle.std.specs.Prelude.{◌==◌}
use Rattle.std.specs.List.{before_first}
use Rattle.std.specs.Option.{option_map, option_map_or}
use Rattle.std.specs.Str.{bytes_eq, IsUtf8}
use Rattle.std.proofs.lemmas.Slice.Eq.{bytes_eq-Decides}
use Rattle.clap.specs.Walk.{Row, Rule, Walk, after_flag, after_step, arg_by_id, arg_by_index, arg_by_long, idle, is_pending, long_met, option, settled_rows, to_positional, used, walked}
use Rattle.clap.specs.Lexer.{strip_byte}
use Rattle.clap.specs.Kinds.{Kinds, or_else}
use Rattle.clap.specs.Faults.{long_fault, positional_fault, settle_fault, step_fault, turn_fault, use_fault}
use Rattle.clap.specs.declared.error.kind.ErrorKind.TheVariants as kind
use Rattle.command_words.specs.Pairs.{Known, Pairs, Text, attached, closed, given, has, is_equals, known_as, named, open_, placed, step_at, wants}
use Rattle.command_words.proofs.Rules.{Fails, batch, by_id, by_index, by_long, fails_left, fails_right, flag-passes, flag-repeats, has-more, option-passes, option-repeats, passes_both, place-passes, place_rule, places, row_for, rule_for, rules, shape, table, used-flag, used-option, used-place}
use Rattle.command_words.proofs.Steps.{Doomed, Filled, Fits, Place, Settles, Waits, and-false, at_mode, bundle_fails, first_, held_with, long_fails, number, second_, third_, walk_at}

or-false : (b : Bool) → (b || false) ≡ b
or-false true = refl
or-false false = refl

keeps : (id n x : Text) (ps : Pairs) → bytes_eq n id ≡ false → has id (ps ++ (n, x) ∷ []) ≡ has id ps
keeps id n x ps e = has-more id n x ps ∙ ap (λ b. has id ps || b) e ∙ or-false (has id ps)

no_strip : (x : ℕ) (xs : Text) → (x == 45) ≡ false → strip_byte 45 (x ∷ xs) ≡ None
no_strip x xs e = rw e refl

or-true : (b : Bool) → (b || true) ≡ true
or-true true = refl
or-true false = refl

added : (n x : Text) (ps : Pairs) → bytes_eq n n ≡ true → has n (ps ++ (n, x) ∷ []) ≡ true
added n x ps e = has-more n n x ps ∙ ap (λ b. has n ps || b) e ∙ or-true (has n ps)

pub filled-more : (place : Place) (n x : Text) (ps : Pairs) → bytes_eq n table ≡ false → bytes_eq n batch ≡ false → Filled place ps → Filled place (ps ++ (n, x) ∷ [])
filled-more first_ n x ps t b f = (keeps table n x ps t ∙ f.0, keeps batch n x ps b ∙ f.1)
filled-more second_ n x ps t b f = (keeps table n x ps t ∙ f.0, keeps batch n x ps b ∙ f.1)
filled-more third_ n x ps t b f = (keeps table n x ps t ∙ f.0, keeps batch n x ps b ∙ f.1)

-- an option that the call knows is none of the places
pub record IsOption (known : List Known) (n : Text) (b : Bool) : Type 0 where
  pub knows : known_as known n ≡ Some (record { name = n; valued = b })
  pub no_table : bytes_eq n table ≡ false
  pub no_batch : bytes_eq n batch ≡ false

abbrev pub long_turn : Text → List Known → List Row → Option (Text × List Text) → ℕ → Text → Option Rule → Option Text → Kinds
long_turn name known r p position word o v =
    let met = after_flag (rules known) idle word (long_met (rules known) o v (held_with r p)).0 (long_met (rules known) o v (held_with r p)).1 in
    or_else (long_fault (rules known) false o v (held_with r p)) (step_fault (shape name known) position met.0 met.1)

abbrev pub long_after : List Known → List Row → Option (Text × List Text) → ℕ → Text → Option Rule → Option Text → Walk
long_after known r p position word o v =
    let met = after_flag (rules known) idle word (long_met (rules known) o v (held_with r p)).0 (long_met (rules known) o v (held_with r p)).1 in
    after_step (rules known) word (at_mode open_ r p position) met.0 met.1

module _ (name : Text) (known : List Known) (r : List Row) (p : Option (Text × List Text)) (place : Place) (ps : Pairs) (word : Text)
    (s : Settles known r p ps) (f : Filled place ps) where
  known_fits : (n : Text) (b : Bool) (v : Option Text) → IsOption known n b
      → Fits known (named (Some (record { name = n; valued = b })) v ps) (long_turn name known r p (number place) word (Some (rule_for (record { name = n; valued = b }))) v)
      (long_after known r p (number place) word (Some (rule_for (record { name = n; valued = b }))) v)
  known_fits n true (Some x) k = go (has n ps) refl
    where
      go : (h : Bool) → has n ps ≡ h → Fits known (cond h None (Some (record { mode = open_; pairs = ps ++ (n, x) ∷ [] })))
          (long_turn name known r p (number place) word (Some (rule_for (record { name = n; valued = true }))) (Some x))
          (long_after known r p (number place) word (Some (rule_for (record { name = n; valued = true }))) (Some x))
      go true e = inl (fails_left _ _ (fails_right _ _ (subst (λ (rows : List Row). Fails (use_fault false (rule_for (record { name = n; valued = true })) (x ∷ []) rows)) (sym s.rows) (option-repeats n x ps e))))
      go false e = (
        passes_both _ _ (passes_both _ _ s.passes (rw s.rows (option-passes n x ps e))) refl,
        record {
          r = used (rule_for (record { name = n; valued = true })) (x ∷ []) (settled_rows (rules known) p r);
          p = None;
          place = place;
          is = refl;
          holds = record { passes = refl; rows = rw s.rows (used-option n x ps e) };
          filled = filled-more place n x ps k.no_table k.no_batch f;
        },
      )
  known_fits n true None k = (
    passes_both _ _ s.passes refl,
    record {
      r = settled_rows (rules known) p r;
      p = Some (n, []);
      place = place;
      is = refl;
      holds = record { pending = refl; rows = s.rows; knows = k.knows };
      filled = f;
    },
  )
  known_fits n false (Some x) k = inl (λ e. cc)
  known_fits n false None k = go (has n ps) refl
    where
      go : (h : Bool) → has n ps ≡ h → Fits known (cond h None (Some (record { mode = open_; pairs = ps ++ (n, codes "true") ∷ [] })))
          (long_turn name known r p (number place) word (Some (rule_for (record { name = n; valued = false }))) None)
          (long_after known r p (number place) word (Some (rule_for (record { name = n; valued = false }))) None)
      go true e = inl (fails_left _ _ (fails_right _ _ (subst (λ (rows : List Row). Fails (use_fault false (rule_for (record { name = n; valued = false })) [] rows)) (sym s.rows) (flag-repeats n ps e))))
      go false e = (
        passes_both _ _ (passes_both _ _ s.passes (rw s.rows (flag-passes n ps e))) refl,
        record {
          r = used (rule_for (record { name = n; valued = false })) [] (settled_rows (rules known) p r);
          p = None;
          place = place;
          is = refl;
          holds = record { passes = refl; rows = rw s.rows (used-flag n ps e) };
          filled = filled-more place n (codes "true") ps k.no_table k.no_batch f;
        },
      )

-- what the look-up by a name finds
known-self : (known : List Known) (n : Text) (k : Known) → known_as known n ≡ Some k → bytes_eq k.name n ≡ true
known-self [] n k e = absurd (cc)
known-self (x ∷ xs) n k e = go (bytes_eq x.name n) refl e (known-self xs n k)
  where
    go : (h : Bool) → bytes_eq x.name n ≡ h → cond h (Some x) (known_as xs n) ≡ Some k → (known_as xs n ≡ Some k → bytes_eq k.name n ≡ true) → bytes_eq k.name n ≡ true
    go true is same next =
        let one : x ≡ k = cc in
        subst (λ (y : Known). bytes_eq y.name n ≡ true) one is
    go false is same next = next same

differs : (known : List Known) (n id : Text) (k : Known) → known_as known n ≡ Some k → k.name ≡ n → known_as known id ≡ None → (b : Bool) → bytes_eq k.name id ≡ b → b ≡ false
differs known n id k found is none true e =
    let same : n ≡ id = sym is ∙ (bytes_eq-Decides k.name id).0 e in
    let both : known_as known id ≡ Some k = subst (λ (t : Text). known_as known t ≡ Some k) same found in
    absurd (let bad : None ≡ Some k = sym none ∙ both in cc)
differs known n id k found is none false e = refl

module _ (name : Text) (known : List Known) (no_table : known_as known table ≡ None) (no_batch : known_as known batch ≡ None) where
  option_is : (n : Text) (k : Known) → known_as known n ≡ Some k → IsOption known k.name k.valued
  option_is n k e =
      let is : k.name ≡ n = (bytes_eq-Decides k.name n).0 (known-self known n k e) in
      record {
        knows = subst (λ (t : Text). known_as known t ≡ Some k) (sym is) e;
        no_table = differs known n table k e is no_table (bytes_eq k.name table) refl;
        no_batch = differs known n batch k e is no_batch (bytes_eq k.name batch) refl;
      }

  -- `--NAME`, `--NAME=VALUE`
  pub long_fits : (r : List Row) (p : Option (Text × List Text)) (place : Place) (ps : Pairs) (y : ℕ) (ys : Text) → Settles known r p ps → Filled place ps
      → Fits known (step_at known open_ ps 45 (45 ∷ y ∷ ys)) (turn_fault (shape name known) [] (at_mode open_ r p (number place)) (45 ∷ 45 ∷ y ∷ ys))
      (walked (rules known) [] (at_mode open_ r p (number place)) (45 ∷ 45 ∷ y ∷ ys))
  unfolding walked
  long_fits r p place ps y ys s f =
      subst (λ (o : Option Rule). Fits known (named (known_as known n) v ps) (long_turn name known r p (number place) word o v) (long_after known r p (number place) word o v))
      (sym (by_long known n)) (go (known_as known n) refl)
    where
      n : Text
      n = before_first is_equals (y ∷ ys)

      v : Option Text
      v = attached (y ∷ ys)

      word : Text
      word = 45 ∷ 45 ∷ y ∷ ys

      go : (o : Option Known) → known_as known n ≡ o → Fits known (named o v ps) (long_turn name known r p (number place) word (option_map rule_for o) v)
          (long_after known r p (number place) word (option_map rule_for o) v)
      go None e = inl (λ h. cc)
      go (Some k) e = known_fits name known r p place ps word s f k.name k.valued v (option_is n k e)

  -- `--`
  pub closing_fits : (r : List Row) (p : Option (Text × List Text)) (place : Place) (ps : Pairs) → Settles known r p ps → Filled place ps
      → Fits known (step_at known open_ ps 45 (45 ∷ [])) (turn_fault (shape name known) [] (at_mode open_ r p (number place)) (45 ∷ 45 ∷ []))
      (walked (rules known) [] (at_mode open_ r p (number place)) (45 ∷ 45 ∷ []))
  unfolding walked
  closing_fits r p place ps s f = (refl, record { r = r; p = p; place = place; is = refl; holds = s; filled = f })

  -- `-abc`, at an idle walk and at one that waits for a value
  pub short_fails : (r : List Row) (p : Option (Text × List Text)) (position y : ℕ) (ys : Text) → IsUtf8 (45 ∷ y ∷ ys) → (y == 45) ≡ false
      → Fails (turn_fault (shape name known) [] (walk_at idle false r p position) (45 ∷ y ∷ ys))
  short_fails r p position y ys u e = rw (e, e) (fails_left _ _ (bundle_fails known y ys r p u))

  pub short_fails_waiting : (n : Text) (r : List Row) (p : Option (Text × List Text)) (position y : ℕ) (ys : Text) → IsUtf8 (45 ∷ y ∷ ys) → (y == 45) ≡ false
      → Fails (turn_fault (shape name known) [] (walk_at (option n) false r p position) (45 ∷ y ∷ ys))
  short_fails_waiting n r p position y ys u e = rw (e, e) (fails_left _ _ (bundle_fails known y ys r p u))

  table_id : arg_by_id (rules known) table ≡ Some (place_rule table 1)
  table_id = by_id known table ∙ ap (λ o. option_map_or (λ k. Some (rule_for k)) o (arg_by_id places table)) no_table

  batch_id : arg_by_id (rules known) batch ≡ Some (place_rule batch 2)
  batch_id = by_id known batch ∙ ap (λ o. option_map_or (λ k. Some (rule_for k)) o (arg_by_id places batch)) no_batch

  settles_place : (n word : Text) (i : ℕ) (r : List Row) (p : Option (Text × List Text)) (ps : Pairs) → arg_by_id (rules known) n ≡ Some (place_rule n i) → has n ps ≡ false
      → Settles known r p ps → Settles known (settled_rows (rules known) p r) (Some (n, word ∷ [])) (ps ++ (n, word) ∷ [])
  settles_place n word i r p ps is e s = record {
    passes = rw (is, s.rows) (place-passes n word i ps e);
    rows = rw (is, s.rows) (used-place n word i ps e);
  }

  abbrev place_turn : List Row → Option (Text × List Text) → Option Rule → Kinds
  place_turn r p o = option_map_or (λ a. positional_fault (rules known) false a (held_with r p)) o (kind.UnknownArgument ∷ [])

  abbrev place_after : Bool → List Row → Option (Text × List Text) → ℕ → Text → Option Rule → Walk
  place_after trailing r p position word o = to_positional (rules known) o word (walk_at idle trailing r p position) (held_with r p)

  -- a place before `--`, and after it
  pub open_place : (r : List Row) (p : Option (Text × List Text)) (place : Place) (ps : Pairs) (word : Text) → Settles known r p ps → Filled place ps
      → Fits known (placed open_ word ps) (place_turn r p (arg_by_index (rules known) (number place)))
      (place_after false r p (number place) word (arg_by_index (rules known) (number place)))
  open_place r p first_ ps word s f = rw (by_index known 1, f.0, f.0) (
    rw (and-false (is_pending (place_rule table 1) p)) s.passes,
    record {
      r = settled_rows (rules known) p r;
      p = Some (table, word ∷ []);
      place = second_;
      is = rw (and-false (is_pending (place_rule table 1) p)) refl;
      holds = settles_place table word 1 r p ps table_id f.0 s;
      filled = (added table word ps refl, keeps batch table word ps refl ∙ f.1);
    },
  )
  open_place r p second_ ps word s f = rw (by_index known 2, f.0, f.1) (
    rw (and-false (is_pending (place_rule batch 2) p)) s.passes,
    record {
      r = settled_rows (rules known) p r;
      p = Some (batch, word ∷ []);
      place = third_;
      is = rw (and-false (is_pending (place_rule batch 2) p)) refl;
      holds = settles_place batch word 2 r p ps batch_id f.1 s;
      filled = (keeps table batch word ps refl ∙ f.0, added batch word ps refl);
    },
  )
  open_place r p third_ ps word s f = rw (by_index known 3, f.0, f.1) (inl (λ h. cc))

  pub closed_place : (r : List Row) (p : Option (Text × List Text)) (place : Place) (ps : Pairs) (word : Text) → Settles known r p ps → Filled place ps
      → Fits known (placed closed word ps) (place_turn r p (arg_by_index (rules known) (number place)))
      (place_after true r p (number place) word (arg_by_index (rules known) (number place)))
  closed_place r p first_ ps word s f = rw (by_index known 1, f.0, f.0) (
    rw (and-false (is_pending (place_rule table 1) p)) s.passes,
    record {
      r = settled_rows (rules known) p r;
      p = Some (table, word ∷ []);
      place = second_;
      is = rw (and-false (is_pending (place_rule table 1) p)) refl;
      holds = settles_place table word 1 r p ps table_id f.0 s;
      filled = (added table word ps refl, keeps batch table word ps refl ∙ f.1);
    },
  )
  closed_place r p second_ ps word s f = rw (by_index known 2, f.0, f.1) (
    rw (and-false (is_pending (place_rule batch 2) p)) s.passes,
    record {
      r = settled_rows (rules known) p r;
      p = Some (batch, word ∷ []);
      place = third_;
      is = rw (and-false (is_pending (place_rule batch 2) p)) refl;
      holds = settles_place batch word 2 r p ps batch_id f.1 s;
      filled = (keeps table batch word ps refl ∙ f.0, added batch word ps refl);
    },
  )
  closed_place r p third_ ps word s f = rw (by_index known 3, f.0, f.1) (inl (λ h. cc))

  -- a word with no dash, where options may come
  pub plain_fits : (r : List Row) (p : Option (Text × List Text)) (place : Place) (ps : Pairs) (x : ℕ) (xs : Text) → (x == 45) ≡ false → Settles known r p ps → Filled place ps
      → Fits known (step_at known open_ ps x xs) (turn_fault (shape name known) [] (at_mode open_ r p (number place)) (x ∷ xs))
      (walked (rules known) [] (at_mode open_ r p (number place)) (x ∷ xs))
  unfolding walked
  plain_fits r p place ps x xs e s f = rw (e, e) (open_place r p place ps (x ∷ xs) s f)

  -- any word after `--`
  pub trailing_fits : (r : List Row) (p : Option (Text × List Text)) (place : Place) (ps : Pairs) (x : ℕ) (xs : Text) → Settles known r p ps → Filled place ps
      → Fits known (step_at known closed ps x xs) (turn_fault (shape name known) [] (at_mode closed r p (number place)) (x ∷ xs))
      (walked (rules known) [] (at_mode closed r p (number place)) (x ∷ xs))
  unfolding walked
  trailing_fits r p place ps x xs s f = closed_place r p place ps (x ∷ xs) s f

  option_id : (n : Text) (b : Bool) → known_as known n ≡ Some (record { name = n; valued = b }) → arg_by_id (rules known) n ≡ Some (rule_for (record { name = n; valued = b }))
  option_id n b e = by_id known n ∙ ap (λ o. option_map_or (λ k. Some (rule_for k)) o (arg_by_id places n)) e

  same : (n : Text) → bytes_eq n n ≡ true
  same n = (bytes_eq-Decides n n).1 refl

  value_given : (n word : Text) (r : List Row) (place : Place) (ps : Pairs) → IsOption known n true → r ≡ map row_for ps → Filled place ps
      → Fits known (given open_ n word ps) [] (walk_at idle false r (Some (n, word ∷ [])) (number place))
  value_given n word r place ps k rows f = go (has n ps) refl
    where
      is : arg_by_id (rules known) n ≡ Some (rule_for (record { name = n; valued = true }))
      is = option_id n true k.knows

      go : (h : Bool) → has n ps ≡ h → Fits known (cond h None (Some (record { mode = open_; pairs = ps ++ (n, word) ∷ [] }))) []
          (walk_at idle false r (Some (n, word ∷ [])) (number place))
      go true e = inr (record {
        waiting = idle;
        trailing = false;
        r = r;
        p = Some (n, word ∷ []);
        position = number place;
        is = refl;
        calm = inr refl;
        fails = rw (is, rows) (option-repeats n word ps e);
      })
      go false e = (
        refl,
        record {
          r = r;
          p = Some (n, word ∷ []);
          place = place;
          is = refl;
          holds = record { passes = rw (is, rows) (option-passes n word ps e); rows = rw (is, rows) (used-option n word ps e) };
          filled = filled-more place n word ps k.no_table k.no_batch f;
        },
      )

  -- the value of an option, in the next word
  pub value_fits : (n : Text) (r : List Row) (p : Option (Text × List Text)) (place : Place) (ps : Pairs) (x : ℕ) (xs : Text) → (x == 45) ≡ false → Waits known n r p ps → Filled place ps
      → Fits known (step_at known (wants n) ps x xs) (turn_fault (shape name known) [] (at_mode (wants n) r p (number place)) (x ∷ xs))
      (walked (rules known) [] (at_mode (wants n) r p (number place)) (x ∷ xs))
  unfolding walked
  value_fits n r p place ps x xs e w f = rw (e, e, option_id n true w.knows, w.pending, same n) (value_given n (x ∷ xs) r place ps (option_is n _ w.knows) w.rows f)

  -- an option that has no value fails
  pub waiting_fails : (n : Text) (r : List Row) (p : Option (Text × List Text)) (ps : Pairs) → Waits known n r p ps → Fails (settle_fault (rules known) false (held_with r p))
  waiting_fails n r p ps w = rw (w.pending, option_id n true w.knows) (λ h. cc)

  pub waiting_closing : (n : Text) (r : List Row) (p : Option (Text × List Text)) (position : ℕ) (ps : Pairs) → Waits known n r p ps
      → Doomed known (walked (rules known) [] (walk_at (option n) false r p position) (45 ∷ 45 ∷ []))
  unfolding walked
  waiting_closing n r p position ps w = record {
    waiting = option n;
    trailing = true;
    r = r;
    p = p;
    position = position;
    is = refl;
    calm = inl refl;
    fails = waiting_fails n r p ps w;
  }

  pub waiting_long : (n : Text) (r : List Row) (p : Option (Text × List Text)) (position y : ℕ) (ys : Text) (ps : Pairs) → Waits known n r p ps
      → Fails (turn_fault (shape name known) [] (walk_at (option n) false r p position) (45 ∷ 45 ∷ y ∷ ys))
  waiting_long n r p position y ys ps w =
      fails_left (long_fault (rules known) false (arg_by_long (rules known) (before_first is_equals (y ∷ ys))) (attached (y ∷ ys)) (held_with r p)) _
      (long_fails known (arg_by_long (rules known) (before_first is_equals (y ∷ ys))) (attached (y ∷ ys)) (held_with r p) (waiting_fails n r p ps w))
