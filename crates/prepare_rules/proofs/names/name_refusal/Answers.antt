use Rattle.std.proofs.Common.{arith, sym, ◌∙◌}
use Rattle.csv.specs.Records.{fields_of}
use Rattle.prepare_rules.proofs.Choosing.{place-within}
use Rattle.prepare_rules.proofs.names.name_refusal.Goals as goal

pub overflow_add-result : goal.overflow_add-result
overflow_add-result c =
    let h = place-within 0 (fields_of c.args.before.now) c.args.name.now c.in-Some.place (sym c.place_of_name.ensures ∙ c.in-Some.is) in
    omega (arith, h, c.requires)
