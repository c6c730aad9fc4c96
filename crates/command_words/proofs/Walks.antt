-- All the words: clap's faults and rows are those of `pairs_from`.
use Rattle.std.proofs.Common.{◌≡◌, ◌⊎◌, inl, inr, ℕ, Bool, true, false, refl, sym, subst, List, [], ◌∷◌, Option, Some, None, true≢false}
use Rattle.std.specs.Prelude.{◌==◌}
use Rattle.std.specs.List.{before_first}
use Rattle.std.specs.Str.{IsUtf8}
use Rattle.std.proofs.lemmas.Bool.{eqb-true}
use Rattle.clap.specs.Walk.{Row, Waiting, Walk, arg_by_long, idle, walked}
use Rattle.clap.specs.Kinds.{Kinds}
use Rattle.clap.specs.Faults.{long_fault, settle_fault, turn_fault}
use Rattle.command_words.specs.Pairs.{Known, Mode, Pairs, Sofar, Text, attached, closed, dashed, is_bare, is_equals, known_as, open_, step_word, wants}
use Rattle.command_words.proofs.Rules.{Fails, batch, fails_left, rules, shape, table}
use Rattle.command_words.proofs.Steps.{Calm, Doomed, Filled, Fits, Holds, Place, Settles, Waits, at_mode, held_with, long_fails, number, place_fails, walk_at}
use Rattle.command_words.proofs.Turns.{closing_fits, long_fits, plain_fits, short_fails, short_fails_waiting, trailing_fits, value_fits, waiting_closing, waiting_long}

-- a word is `--`, `--NAME..`, `-abc` or begins with no dash
module _ (P : Text → Type 0) (closing : P (45 ∷ 45 ∷ [])) (long : (y : ℕ) (ys : Text) → P (45 ∷ 45 ∷ y ∷ ys)) (short : (y : ℕ) (ys : Text) → (y == 45) ≡ false → P (45 ∷ y ∷ ys))
    (plain : (x : ℕ) (xs : Text) → (x == 45) ≡ false → P (x ∷ xs)) where
  two : (ys : Text) → P (45 ∷ 45 ∷ ys)
  two [] = closing
  two (y ∷ ys) = long y ys

  dash : (xs : Text) → is_bare (45 ∷ xs) ≡ false → P (45 ∷ xs)
  dash [] b = absurd (true≢false b)
  dash (y ∷ ys) b = go (y == 45) refl
    where
      go : (h : Bool) → (y == 45) ≡ h → P (45 ∷ y ∷ ys)
      go true e = subst (λ (k : ℕ). P (45 ∷ k ∷ ys)) (sym (eqb-true y 45 e)) (two ys)
      go false e = short y ys e

  pub by_word : (word : Text) → is_bare word ≡ false → P word
  by_word [] b = absurd (true≢false b)
  by_word (x ∷ xs) b = go (x == 45) refl
    where
      go : (h : Bool) → (x == 45) ≡ h → P (x ∷ xs)
      go true e =
          let is : x ≡ 45 = eqb-true x 45 e in
          subst (λ (k : ℕ). P (k ∷ xs)) (sym is) (dash xs (subst (λ (k : ℕ). is_bare (k ∷ xs) ≡ false) is b))
      go false e = plain x xs e

none_fits : (known : List Known) (o : Option Sofar) (turn : Kinds) (after : Walk) → o ≡ None → Fails turn → Fits known o turn after
none_fits known None turn after e f = inl f
none_fits known (Some t) turn after e f = absurd (cc)

no_dashed : (known : List Known) (y : ℕ) (ys : Text) (ps : Pairs) → (y == 45) ≡ false → dashed known (y ∷ ys) ps ≡ None
no_dashed known y [] ps e = rw e refl
no_dashed known y (z ∷ zs) ps e = rw e refl

module _ (name : Text) (known : List Known) (no_table : known_as known table ≡ None) (no_batch : known_as known batch ≡ None) where
  open_fits : (r : List Row) (p : Option (Text × List Text)) (place : Place) (ps : Pairs) → Settles known r p ps → Filled place ps → (word : Text) → is_bare word ≡ false → IsUtf8 word
      → Fits known (step_word known (record { mode = open_; pairs = ps }) word) (turn_fault (shape name known) [] (at_mode open_ r p (number place)) word)
      (walked (rules known) [] (at_mode open_ r p (number place)) word)
  open_fits r p place ps s f = by_word (λ word. IsUtf8 word
      → Fits known (step_word known (record { mode = open_; pairs = ps }) word) (turn_fault (shape name known) [] (at_mode open_ r p (number place)) word)
      (walked (rules known) [] (at_mode open_ r p (number place)) word))
      (λ u. closing_fits name known no_table no_batch r p place ps s f)
      (λ y ys u. long_fits name known no_table no_batch r p place ps y ys s f)
      (λ y ys e u. none_fits known (dashed known (y ∷ ys) ps) (turn_fault (shape name known) [] (at_mode open_ r p (number place)) (45 ∷ y ∷ ys))
      (walked (rules known) [] (at_mode open_ r p (number place)) (45 ∷ y ∷ ys))
      (no_dashed known y ys ps e) (short_fails name known no_table no_batch r p (number place) y ys u e))
      (λ x xs e u. plain_fits name known no_table no_batch r p place ps x xs e s f)

  wants_fits : (n : Text) (r : List Row) (p : Option (Text × List Text)) (place : Place) (ps : Pairs) → Waits known n r p ps → Filled place ps → (word : Text) → is_bare word ≡ false → IsUtf8 word
      → Fits known (step_word known (record { mode = wants n; pairs = ps }) word) (turn_fault (shape name known) [] (at_mode (wants n) r p (number place)) word)
      (walked (rules known) [] (at_mode (wants n) r p (number place)) word)
  wants_fits n r p place ps w f = by_word (λ word. IsUtf8 word
      → Fits known (step_word known (record { mode = wants n; pairs = ps }) word) (turn_fault (shape name known) [] (at_mode (wants n) r p (number place)) word)
      (walked (rules known) [] (at_mode (wants n) r p (number place)) word))
      (λ u. inr (waiting_closing name known no_table no_batch n r p (number place) ps w))
      (λ y ys u. inl (waiting_long name known no_table no_batch n r p (number place) y ys ps w))
      (λ y ys e u. inl (short_fails_waiting name known no_table no_batch n r p (number place) y ys u e))
      (λ x xs e u. value_fits name known no_table no_batch n r p place ps x xs e w f)

  pub fits : (m : Mode) (r : List Row) (p : Option (Text × List Text)) (place : Place) (ps : Pairs) → Holds known m r p ps → Filled place ps → (word : Text) → is_bare word ≡ false → IsUtf8 word
      → Fits known (step_word known (record { mode = m; pairs = ps }) word) (turn_fault (shape name known) [] (at_mode m r p (number place)) word)
      (walked (rules known) [] (at_mode m r p (number place)) word)
  fits open_ r p place ps h f word b u = open_fits r p place ps h f word b u
  fits (wants n) r p place ps h f word b u = wants_fits n r p place ps h f word b u
  fits closed r p place ps h f [] b u = absurd (true≢false b)
  fits closed r p place ps h f (x ∷ xs) b u = trailing_fits name known no_table no_batch r p place ps x xs h f

  -- ---- where what is pending fails

  abbrev StaysDoomed : Waiting → Bool → List Row → Option (Text × List Text) → ℕ → Text → Type 0
  StaysDoomed waiting trailing r p position word = Fails (turn_fault (shape name known) [] (walk_at waiting trailing r p position) word)
      ⊎ Doomed known (walked (rules known) [] (walk_at waiting trailing r p position) word)

  module _ (r : List Row) (p : Option (Text × List Text)) (position : ℕ) (f : Fails (settle_fault (rules known) false (held_with r p))) where
    doomed_closing : StaysDoomed idle false r p position (45 ∷ 45 ∷ [])
    unfolding walked
    doomed_closing = inr (record { waiting = idle; trailing = true; r = r; p = p; position = position; is = refl; calm = inl refl; fails = f })

    doomed_plain : (x : ℕ) (xs : Text) → (x == 45) ≡ false → Fails (turn_fault (shape name known) [] (walk_at idle false r p position) (x ∷ xs))
    doomed_plain x xs e = rw (e, e) (place_fails name known position (held_with r p) f)

    doomed_idle : (word : Text) → is_bare word ≡ false → IsUtf8 word → StaysDoomed idle false r p position word
    doomed_idle = by_word (λ word. IsUtf8 word → StaysDoomed idle false r p position word)
        (λ u. doomed_closing)
        (λ y ys u. inl (fails_left (long_fault (rules known) false (arg_by_long (rules known) (before_first is_equals (y ∷ ys))) (attached (y ∷ ys)) (held_with r p)) _
        (long_fails known (arg_by_long (rules known) (before_first is_equals (y ∷ ys))) (attached (y ∷ ys)) (held_with r p) f)))
        (λ y ys e u. inl (short_fails name known no_table no_batch r p position y ys u e))
        (λ x xs e u. inl (doomed_plain x xs e))

    pub doomed_word : (waiting : Waiting) (trailing : Bool) → Calm waiting trailing → (word : Text) → is_bare word ≡ false → IsUtf8 word → StaysDoomed waiting trailing r p position word
    doomed_word waiting true c word b u = inl (place_fails name known position (held_with r p) f)
    doomed_word waiting false c word b u = elim c [
      | inl bad ↦ absurd (true≢false (sym bad))
      | inr is ↦ subst (λ (v : Waiting). StaysDoomed v false r p position word) (sym is) (doomed_idle word b u)
    ]
