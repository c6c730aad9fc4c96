-- What a parse by the command says.
use Rattle.std.proofs.Common.{◌≡◌, ◌∙◌, inl, inr, true, refl, sym, ap, subst, List, []}
use Rattle.clap.specs.Faults.{fault_of, is_simple_and_free}
use Rattle.clap.specs.Kinds.{HasKind, IsAmong}
use Rattle.clap.specs.Simple.{App, HasMatchesOf, is_simple, subcommand_of, subcommand_rows_of}
use Rattle.clap.specs.Values.{kind_of}
use Rattle.clap.specs.Walk.{Text}
use Rattle.clap.specs.declared.error.Error.{Error}
use Rattle.clap.specs.declared.error.kind.ErrorKind.TheVariants as kind
use Rattle.clap.specs.declared.parser.matches.ArgMatches.{ArgMatches}
use Rattle.prepare_words.specs.Command.{prepare}

is_free : is_simple_and_free prepare ≡ true
is_free = refl

simple : is_simple prepare ≡ true
simple = refl

pub taken : (a : App) (words : List Text) (m : ArgMatches) → a ≡ prepare → (is_simple_and_free a ≡ true → fault_of a words ≡ []) → HasMatchesOf a words m
    → (fault_of prepare words ≡ []) × (subcommand_rows_of m ≡ subcommand_of prepare words)
taken a words m is passes matches = (
  ap (λ x. fault_of x words) (sym is) ∙ passes (ap is_simple_and_free is ∙ is_free),
  (matches (ap is_simple is ∙ simple)).1 ∙ ap (λ x. subcommand_of x words) is,
)

pub said : (a : App) (words : List Text) (e : Error) → a ≡ prepare → (is_simple_and_free a ≡ true → HasKind (fault_of a words) e) → (kind_of e ≡ kind.OutOfMemory → ⊥)
    → IsAmong (kind_of e) (fault_of prepare words)
said a words e is fails not_memory = elim (subst (λ ks. HasKind ks e) (ap (λ x. fault_of x words) is) (fails (ap is_simple_and_free is ∙ is_free))) [
  | inl m ↦ absurd (not_memory m)
  | inr k ↦ k
]
