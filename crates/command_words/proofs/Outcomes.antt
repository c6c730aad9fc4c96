-- What a parse says of the pairs.
use Rattle.std.proofs.Common.{◌≡◌, ◌∙◌, ◌||◌, inl, inr, Bool, cond, true, false, refl, sym, ap, subst, List, [], ◌∷◌, Option, Some, None, codes, true≢false, map, string_bytes, String}
use Rattle.std.specs.List.{fold, list_any}
use Rattle.std.specs.Option.{option_and_then}
use Rattle.std.proofs.lemmas.Str.{IsUtf8-string_bytes}
use Rattle.std.specs.declared.alloc.Global.{Global}
use Rattle.clap.specs.Walk.{first_of, nothing_held, rows_of, settled, walk_from, with_default}
use Rattle.clap.specs.Simple.{App, HasMatchesOf, built, is_simple, matches_of}
use Rattle.clap.specs.Matches.{first_value, found_of}
use Rattle.clap.specs.Values.{kind_of}
use Rattle.clap.specs.Kinds.{HasKind}
use Rattle.clap.specs.Faults.{fault_of, is_simple_and_free}
use Rattle.clap.specs.declared.error.Error.{Error}
use Rattle.clap.specs.declared.error.kind.ErrorKind.TheVariants as kind
use Rattle.clap.specs.declared.parser.matches.ArgMatches.{ArgMatches}
use Rattle.clap.proofs.WalkLemmas.{first_value-rows}
use Rattle.command_words.specs.Pairs.{Known, Pairs, Sofar, Text, is_bare, known_as, pairs_from, pairs_of, step_word}
use Rattle.command_words.specs.Matched.{HasPairs, is_true, texts}
use Rattle.command_words.specs.Command.{app}
use Rattle.command_words.specs.Knows.{known_to}
use Rattle.command_words.specs.declared.call.Call.{Call}
use Rattle.command_words.specs.declared.call.Call.TheVariants.{Run, RunBoxed}
use Rattle.command_words.proofs.Rules.{batch, row_for, rules, shape, table}
use Rattle.command_words.proofs.App.{fault_is, rows_are}
use Rattle.command_words.proofs.Ends.{first-pairs, flag-first, option-first}
use Rattle.command_words.proofs.Whole.{Clean, Gives, end_of, faults, tie_all}

-- an empty word or a lone `-` is refused wherever it stands
bare_from : (known : List Known) (words : List Text) → list_any is_bare words ≡ true → (s : Sofar) → pairs_from known s words ≡ None
bare_from known [] e s = absurd (true≢false (sym e))
bare_from known (w ∷ ws) e s = go (is_bare w) e (step_word known s w) (λ h t. bare_from known ws h t)
  where
    go : (b : Bool) → (b || list_any is_bare ws) ≡ true → (o : Option Sofar) → (list_any is_bare ws ≡ true → (t : Sofar) → pairs_from known t ws ≡ None)
        → option_and_then (λ t. pairs_from known t ws) (cond b None o) ≡ None
    go true h o next = refl
    go false h None next = refl
    go false h (Some t) next = next h t

pub bare_none : (known : List Known) (words : List (String Global)) → true ≡ list_any is_bare (texts words) → pairs_of known (texts words) ≡ None
bare_none known words e = bare_from known (texts words) (sym e) _

clean : (words : List (String Global)) → list_any is_bare (texts words) ≡ false → Clean (texts words)
clean [] e = tt
clean (w ∷ ws) e = go (is_bare (string_bytes w)) refl e (λ h. clean ws h)
  where
    go : (b : Bool) → is_bare (string_bytes w) ≡ b → (b || list_any is_bare (texts ws)) ≡ false → (list_any is_bare (texts ws) ≡ false → Clean (texts ws)) → Clean (texts (w ∷ ws))
    go true is h next = absurd (true≢false h)
    go false is h next = (is, IsUtf8-string_bytes w, next h)

-- ---- the two commands

abbrev name : Text
name = codes "coop_cli"

no_table : (call : Call) → known_as (known_to call) table ≡ None
no_table Run = refl
no_table RunBoxed = refl

no_batch : (call : Call) → known_as (known_to call) batch ≡ None
no_batch Run = refl
no_batch RunBoxed = refl

is_built : (call : Call) → built (app name (known_to call)) ≡ record { top = shape name (known_to call); subs = [] }
is_built Run = refl
is_built RunBoxed = refl

no_binary : (call : Call) → (app name (known_to call)).top.no_binary_name ≡ true
no_binary Run = refl
no_binary RunBoxed = refl

is_free : (call : Call) → is_simple_and_free (app name (known_to call)) ≡ true
is_free Run = refl
is_free RunBoxed = refl

simple : (call : Call) → is_simple (app name (known_to call)) ≡ true
simple Run = refl
simple RunBoxed = refl

module _ (call : Call) (words : List (String Global)) (not_bare : list_any is_bare (texts words) ≡ false) where
  abbrev known : List Known
  known = known_to call

  tied : Gives name known (walk_from nothing_held) (texts words) (pairs_of known (texts words))
  tied = tie_all name known (no_table call) (no_batch call) (texts words) (clean words not_bare)

  same_fault : fault_of (app name known) (texts words) ≡ faults name known (walk_from nothing_held) (texts words)
  same_fault = fault_is name known (is_built call) (no_binary call) (texts words)

  abbrev Reads : ArgMatches → Type 0
  Reads m = (ps : Pairs) × (pairs_of known (texts words) ≡ Some ps) × HasPairs known (found_of m) ps

  has_pairs : (m : ArgMatches) (ps : Pairs) → rows_of (found_of m) ≡ fold with_default (map row_for ps) (rules known) → HasPairs known (found_of m) ps
  has_pairs m ps rows =
      let is : (id : Text) → first_value (found_of m) id ≡ first_of id (fold with_default (map row_for ps) (rules known)) = λ id. first_value-rows (found_of m) id ∙ ap (first_of id) rows in
      record {
        text = λ id q. is id ∙ option-first id known q (map row_for ps) ∙ first-pairs id ps;
        flag = λ id. ap is_true (is id) ∙ flag-first id known (map row_for ps) ∙ ap is_true (first-pairs id ps);
      }

  pub read_ok : (a : App) (m : ArgMatches) → a ≡ app name known → (is_simple_and_free a ≡ true → fault_of a (texts words) ≡ []) → HasMatchesOf a (texts words) m → Reads m
  read_ok a m is passes matches = go (pairs_of known (texts words)) refl tied
    where
      none : faults name known (walk_from nothing_held) (texts words) ≡ []
      none = sym same_fault ∙ ap (λ x. fault_of x (texts words)) (sym is) ∙ passes (ap is_simple_and_free is ∙ is_free call)

      rows : rows_of (found_of m) ≡ fold with_default (settled (rules known) (end_of known (walk_from nothing_held) (texts words))).rows (rules known)
      rows = (matches (ap is_simple is ∙ simple call)).0 ∙ ap (λ x. matches_of x (texts words)) is ∙ rows_are name known (is_built call) (no_binary call) (texts words)

      go : (o : Option Pairs) → pairs_of known (texts words) ≡ o → Gives name known (walk_from nothing_held) (texts words) o → Reads m
      go None e g = absurd (g none)
      go (Some ps) e g = (ps, e, has_pairs m ps (rows ∙ ap (λ r. fold with_default r (rules known)) g.1))

  pub read_usage : (a : App) (e : Error) → a ≡ app name known → (is_simple_and_free a ≡ true → HasKind (fault_of a (texts words)) e) → (kind_of e ≡ kind.OutOfMemory → ⊥)
      → pairs_of known (texts words) ≡ None
  read_usage a e is fails not_memory = go (pairs_of known (texts words)) tied
    where
      among : HasKind (faults name known (walk_from nothing_held) (texts words)) e
      among = subst (λ ks. HasKind ks e) (ap (λ x. fault_of x (texts words)) is ∙ same_fault) (fails (ap is_simple_and_free is ∙ is_free call))

      go : (o : Option Pairs) → Gives name known (walk_from nothing_held) (texts words) o → o ≡ None
      go None g = refl
      go (Some ps) g = absurd (elim (subst (λ ks. HasKind ks e) g.0 among) [ inl m ↦ not_memory m | inr k ↦ k ])
