use Rattle.std.proofs.Common.{◌≡◌, ◌∙◌, ◌++◌, ◌∷◌, [], List, ℕ, ap, rules, w64}
use Rattle.std.proofs.lemmas.Int.{to_z-of_z}
use Rattle.csv_load.specs.Gathered.{number_fields}
use Rattle.csv_load.proofs.Alike.{fields-some, numbers-some}
use Rattle.csv_load.proofs.gathered.Gathered.put.Goals as goal

pub invariant_of-self-in-Some : goal.invariant_of-self-in-Some
invariant_of-self-in-Some c still = rw (c.in_ok-push-2.ensures.ok, to_z-of_z w64 c.in-Some.number.value (search rules))
    (numbers-some c.self.inside.places c.self.inside.numbers c.in-Some.number c.args.field.now (c.self.invariant c.if-self.false)
    c.in-Some.ensures.0 c.in-Some.ensures.1 c.in-Some.ensures.2 c.in-Some.ensures.3)

pub returns-in-Some : goal.returns-in-Some
returns-in-Some c =
    let places = c.self.inside.places in
    let numbers = c.self.inside.numbers in
    let view : number_fields places numbers ≡ c.args.self.now = rw c.if-self.false at c.self.view_is in
    rw (c.if-self.false, c.in_ok-push-2.ensures.ok, to_z-of_z w64 c.in-Some.number.value (search rules))
    (fields-some places numbers c.in-Some.number c.args.field.now (c.self.invariant c.if-self.false) c.in-Some.ensures.0 c.in-Some.ensures.1 c.in-Some.ensures.3
    ∙ ap (λ (l : List (List ℕ)). l ++ c.args.field.now ∷ []) view)
