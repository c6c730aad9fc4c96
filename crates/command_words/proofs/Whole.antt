-- All the words: clap fails exactly where they give no pairs, and else holds the pairs.
use Rattle.std.proofs.Common.{◌≡◌, ◌∙◌, ◌&&◌, ◌||◌, ◌⊎◌, inl, inr, Bool, cond, true, false, not, refl, sym, ap, subst, List, [], ◌∷◌, map, Option, Some, None}
use Rattle.std.specs.Prelude.{⊤}
use Rattle.std.specs.List.{fold}
use Rattle.std.specs.Option.{option_and_then}
use Rattle.std.specs.Str.{IsUtf8}
use Rattle.clap.specs.Walk.{Held, Row, Walk, finished, nothing_held, settled, settled_rows, walk_from, walked}
use Rattle.clap.specs.Kinds.{Kinds, check_kinds, or_else}
use Rattle.clap.specs.Faults.{check_fault, defaults_fault, settle_fault, turn_fault, walk_fault}
use Rattle.command_words.specs.Pairs.{Known, Mode, Pairs, Sofar, Text, closed, ended, has, is_bare, known_as, open_, pairs_from, pairs_of, step_word, wants}
use Rattle.command_words.proofs.Rules.{Fails, batch, fails_left, fails_right, passes_both, row_for, rules, shape, table}
use Rattle.command_words.proofs.Steps.{Doomed, Fits, Holds, Place, Related, Settles, at_mode, first_, held_with, number}
use Rattle.command_words.proofs.Turns.{waiting_fails}
use Rattle.command_words.proofs.Walks.{doomed_word, fits}
use Rattle.command_words.proofs.Ends.{check_is, defaults_pass}

abbrev pub tail : Text → List Known → Held → Kinds
tail name known h = or_else (settle_fault (rules known) false h)
    (or_else (defaults_fault (settled (rules known) h).rows (rules known)) (check_fault (shape name known) (finished (rules known) h) false))

abbrev pub end_of : List Known → Walk → List Text → Held
end_of known w words = (fold (walked (rules known) []) w words).held

abbrev pub faults : Text → List Known → Walk → List Text → Kinds
faults name known w words = or_else (walk_fault (shape name known) [] w words) (tail name known (end_of known w words))

-- no word is empty or the lone `-`, and each is UTF-8
abbrev pub Clean : List Text → Type 0
Clean [] = ⊤
Clean (word ∷ rest) = (is_bare word ≡ false) × IsUtf8 word × Clean rest

abbrev pub Gives : Text → List Known → Walk → List Text → Option Pairs → Type 0
Gives name known w words None = Fails (faults name known w words)
Gives name known w words (Some ps) = (faults name known w words ≡ []) × ((settled (rules known) (end_of known w words)).rows ≡ map row_for ps)

abbrev if_both : Bool → Bool → Pairs → Option Pairs
if_both t b ps = cond (t && b) (Some ps) None

or_else-assoc : (a b c : Kinds) → or_else (or_else a b) c ≡ or_else a (or_else b c)
or_else-assoc [] b c = refl
or_else-assoc (k ∷ ks) b c = refl

module _ (name : Text) (known : List Known) (no_table : known_as known table ≡ None) (no_batch : known_as known batch ≡ None) where
  -- one more word
  more : (w : Walk) (word : Text) (rest : List Text)
      → faults name known w (word ∷ rest) ≡ or_else (turn_fault (shape name known) [] w word) (faults name known (walked (rules known) [] w word) rest)
  unfolding walk_fault
  more w word rest = or_else-assoc (turn_fault (shape name known) [] w word) (walk_fault (shape name known) [] (walked (rules known) [] w word) rest)
      (tail name known (end_of known (walked (rules known) [] w word) rest))

  none_more : (w : Walk) → faults name known w [] ≡ tail name known w.held
  unfolding walk_fault
  none_more w = refl

  more_fails : (w : Walk) (word : Text) (rest : List Text) → Fails (turn_fault (shape name known) [] w word) ⊎ Fails (faults name known (walked (rules known) [] w word) rest)
      → Fails (faults name known w (word ∷ rest))
  more_fails w word rest f = subst Fails (sym (more w word rest)) (elim f [
    | inl here ↦ fails_left (turn_fault (shape name known) [] w word) (faults name known (walked (rules known) [] w word) rest) here
    | inr later ↦ fails_right (turn_fault (shape name known) [] w word) (faults name known (walked (rules known) [] w word) rest) later
  ])

  doomed_all : (words : List Text) → Clean words → (w : Walk) → Doomed known w → Fails (faults name known w words)
  doomed_all [] c w d = subst Fails (sym (none_more w)) (subst (λ (v : Walk). Fails (tail name known v.held)) (sym d.is) (fails_left _ _ d.fails))
  doomed_all (word ∷ rest) c w d =
      more_fails w word rest (elim (subst (λ (v : Walk). Fails (turn_fault (shape name known) [] v word) ⊎ Doomed known (walked (rules known) [] v word)) (sym d.is)
      (doomed_word name known no_table no_batch d.r d.p d.position d.fails d.waiting d.trailing d.calm word c.0 c.1)) [
        | inl f ↦ inl f
        | inr e ↦ inr (doomed_all rest c.2 (walked (rules known) [] w word) e)
      ])

  tail_is : (r : List Row) (p : Option (Text × List Text)) (ps : Pairs) → Settles known r p ps
      → tail name known (held_with r p) ≡ check_kinds false false (not (has table ps) || (not (has batch ps) || false))
  tail_is r p ps s = λ i. or_else (s.passes i) (or_else (defaults_pass (settled_rows (rules known) p r) known i) (check_is name known (settled_rows (rules known) p r) ps s.rows i))

  ends_settled : (w : Walk) (r : List Row) (p : Option (Text × List Text)) (ps : Pairs) → w.held ≡ held_with r p → Settles known r p ps
      → Gives name known w [] (if_both (has table ps) (has batch ps) ps)
  ends_settled w r p ps is s = go (has table ps) (has batch ps) (none_more w ∙ ap (tail name known) is ∙ tail_is r p ps s)
    where
      go : (t b : Bool) → faults name known w [] ≡ check_kinds false false (not t || (not b || false)) → Gives name known w [] (if_both t b ps)
      go true true e = (e, ap (λ h. (settled (rules known) h).rows) is ∙ s.rows)
      go true false e = λ none. let bad = sym e ∙ none in cc
      go false b e = λ none. let bad = sym e ∙ none in cc

  ends : (m : Mode) (w : Walk) (r : List Row) (p : Option (Text × List Text)) (place : Place) (ps : Pairs) → w ≡ at_mode m r p (number place) → Holds known m r p ps
      → Gives name known w [] (ended m ps)
  ends open_ w r p place ps is s = ends_settled w r p ps (ap (λ (v : Walk). v.held) is) s
  ends closed w r p place ps is s = ends_settled w r p ps (ap (λ (v : Walk). v.held) is) s
  ends (wants n) w r p place ps is s = subst Fails (sym (none_more w ∙ ap (λ (v : Walk). tail name known v.held) is))
      (fails_left _ _ (waiting_fails name known no_table no_batch n r p ps s))

  passes_more : (w : Walk) (word : Text) (rest : List Text) (o : Option Pairs) → turn_fault (shape name known) [] w word ≡ []
      → Gives name known (walked (rules known) [] w word) rest o → Gives name known w (word ∷ rest) o
  passes_more w word rest None e g = more_fails w word rest (inr g)
  passes_more w word rest (Some ps) e g = (more w word rest ∙ passes_both _ _ e g.0, g.1)

  fails_more : (w : Walk) (word : Text) (rest : List Text) → Clean rest → Fails (turn_fault (shape name known) [] w word) ⊎ Doomed known (walked (rules known) [] w word)
      → Fails (faults name known w (word ∷ rest))
  fails_more w word rest c f = more_fails w word rest (elim f [ inl here ↦ inl here | inr d ↦ inr (doomed_all rest c (walked (rules known) [] w word) d) ])

  pub tie : (words : List Text) → Clean words → (s : Sofar) (w : Walk) → Related known w s → Gives name known w words (pairs_from known s words)
  tie [] c s w g = ends s.mode w g.r g.p g.place s.pairs g.is g.holds
  tie (word ∷ rest) c s w g =
      rw c.0 (go (step_word known s word)
      (subst (λ (v : Walk). Fits known (step_word known s word) (turn_fault (shape name known) [] v word) (walked (rules known) [] v word)) (sym g.is)
      (fits name known no_table no_batch s.mode g.r g.p g.place s.pairs g.holds g.filled word c.0 c.1)) (tie rest c.2))
    where
      go : (o : Option Sofar) → Fits known o (turn_fault (shape name known) [] w word) (walked (rules known) [] w word)
          → ((t : Sofar) (v : Walk) → Related known v t → Gives name known v rest (pairs_from known t rest))
          → Gives name known w (word ∷ rest) (option_and_then (λ t. pairs_from known t rest) o)
      go None f next = fails_more w word rest c.2 f
      go (Some t) f next = passes_more w word rest (pairs_from known t rest) f.0 (next t (walked (rules known) [] w word) f.1)

  -- from the start
  pub tie_all : (words : List Text) → Clean words → Gives name known (walk_from nothing_held) words (pairs_of known words)
  tie_all words c = tie words c (record { mode = open_; pairs = [] }) (walk_from nothing_held) (record {
    r = [];
    p = None;
    place = first_;
    is = refl;
    holds = record { passes = refl; rows = refl };
    filled = (refl, refl);
  })
