-- What the words ask for, by what clap reads of them.
use Rattle.std.proofs.Common.{◌≡◌, ◌∙◌, ap, refl, sym, List, [], Option, Some, None, Result, false, is_some, true≢false}
use Rattle.std.specs.Borrow.{Bor}
use Rattle.std.specs.Option.{option_map}
use Rattle.std.specs.Prelude.{map, unwrap_or}
use Rattle.prepare_words.specs.Views.{texts_given}
use Rattle.clap.specs.Faults.{fault_of}
use Rattle.clap.specs.Simple.{subcommand_of}
use Rattle.clap.specs.Walk.{Row, Text}
use Rattle.prepare_words.specs.Asked.{AskedIs, IsRefusedFor, IsRuleFault, asked_by, asked_in, asked_of}
use Rattle.prepare_words.specs.Reading.{Faulty}
use Rattle.prepare_words.specs.declared.fault.Fault.TheVariants as fault
use Rattle.prepare_words.specs.declared.refused.Refused.{Refused}
use Rattle.prepare_words.specs.declared.refused.Refused.TheVariants as refused
use Rattle.prepare_words.specs.Command.{prepare}

abbrev pub both_of : {X : Type 0} → (X → Text) → (X → List Row) → X → Text × List Row
both_of f g x = (f x, g x)

-- the name and the rows of the subcommand, apart and together
pub joined : {X : Type 0} (f : X → Text) (g : X → List Row) (o : Option X) (name : Text) (rows : List Row) → Some name ≡ option_map f o
    → Some rows ≡ option_map (λ (p : Text × List Row). p.1) (option_map (both_of f g) o) → option_map (both_of f g) o ≡ Some (name, rows)
joined f g None name rows a b = cc
joined f g (Some x) name rows a b = cc

pub lacks : {X : Type 0} (f : X → Text) (g : X → List Row) (o : Option X) → false ≡ is_some o → option_map (both_of f g) o ≡ None
lacks f g None none = refl
lacks f g (Some x) none = absurd (true≢false (sym none))

pub asks : (words : List Text) (met : Option (Text × List Row)) → fault_of prepare words ≡ [] → subcommand_of prepare words ≡ met → asked_of words ≡ Some (asked_by met)
asks words met none is = ap (λ k. asked_in k words) none ∙ ap (λ s. Some (asked_by s)) is

pub refused_for : (words : List Text) (r : Result AskedIs Faulty) (e : Refused) → asked_of words ≡ Some r → IsRuleFault r e → IsRefusedFor words e
refused_for words r (refused.Said error) is h = absurd h
refused_for words r (refused.Rule (fault.Value w value)) is h = is ∙ ap Some h
refused_for words r (refused.Rule (fault.Alone w)) is h = is ∙ ap Some h
refused_for words r (refused.Rule fault.Memory) is h = tt

pub given : (o : Option (Bor (List (Bor Text)))) → texts_given o ≡ unwrap_or (option_map (λ s. map (λ v. v.now) s.now) o) []
given None = refl
given (Some s) = refl
