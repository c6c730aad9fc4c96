-- What a parse by the command says.
use Rattle.std.proofs.Common.{◌≡◌, ◌∙◌, inl, inr, true, refl, sym, ap, subst, List, []}
use Rattle.clap.specs.Faults.{fault_of, is_simple_and_free}
use Rattle.clap.specs.Kinds.{HasKind, IsAmong}
use Rattle.clap.specs.Simple.{App, HasMatchesOf, is_simple, matches_of, subcommand_of, subcommand_rows_of}
use Rattle.clap.specs.Values.{kind_of}
use Rattle.clap.specs.Walk.{Text, rows_of}
use Rattle.clap.specs.Matches.{found_of}
use Rattle.clap.specs.declared.error.Error.{Error}
use Rattle.clap.specs.declared.error.kind.ErrorKind.TheVariants as kind
use Rattle.clap.specs.declared.parser.matches.ArgMatches.{ArgMatches}
use Rattle.inspect_words.specs.Command.{inspect, story}

is_free : is_simple_and_free inspect ≡ true
is_free = refl

simple : is_simple inspect ≡ true
simple = refl

pub taken : (a : App) (words : List Text) (m : ArgMatches) → a ≡ inspect → (is_simple_and_free a ≡ true → fault_of a words ≡ []) → HasMatchesOf a words m
    → (fault_of inspect words ≡ []) × (subcommand_rows_of m ≡ subcommand_of inspect words)
taken a words m is passes matches = (
  ap (λ x. fault_of x words) (sym is) ∙ passes (ap is_simple_and_free is ∙ is_free),
  (matches (ap is_simple is ∙ simple)).1 ∙ ap (λ x. subcommand_of x words) is,
)

-- the same behind `judge --story`

story_is_free : is_simple_and_free story ≡ true
story_is_free = refl

story_simple : is_simple story ≡ true
story_simple = refl

pub story_taken : (a : App) (words : List Text) (m : ArgMatches) → a ≡ story → (is_simple_and_free a ≡ true → fault_of a words ≡ []) → HasMatchesOf a words m
    → (fault_of story words ≡ []) × (rows_of (found_of m) ≡ matches_of story words)
story_taken a words m is passes matches = (
  ap (λ x. fault_of x words) (sym is) ∙ passes (ap is_simple_and_free is ∙ story_is_free),
  (matches (ap is_simple is ∙ story_simple)).0 ∙ ap (λ x. matches_of x words) is,
)

pub story_said : (a : App) (words : List Text) (e : Error) → a ≡ story → (is_simple_and_free a ≡ true → HasKind (fault_of a words) e) → (kind_of e ≡ kind.OutOfMemory → ⊥)
    → IsAmong (kind_of e) (fault_of story words)
story_said a words e is fails not_memory = elim (subst (λ ks. HasKind ks e) (ap (λ x. fault_of x words) is) (fails (ap is_simple_and_free is ∙ story_is_free))) [
  | inl m ↦ absurd (not_memory m)
  | inr k ↦ k
]

pub said : (a : App) (words : List Text) (e : Error) → a ≡ inspect → (is_simple_and_free a ≡ true → HasKind (fault_of a words) e) → (kind_of e ≡ kind.OutOfMemory → ⊥)
    → IsAmong (kind_of e) (fault_of inspect words)
said a words e is fails not_memory = elim (subst (λ ks. HasKind ks e) (ap (λ x. fault_of x words) is) (fails (ap is_simple_and_free is ∙ is_free))) [
  | inl m ↦ absurd (not_memory m)
  | inr k ↦ k
]
