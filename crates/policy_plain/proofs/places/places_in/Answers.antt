-- proofs/places/places_in/Answers.antt
use Rattle.std.proofs.Common.{◌∙◌}
use Rattle.std.proofs.lemmas.List.{get_or-replicate}
use Rattle.scan_story.specs.Policies.{place_in}
use Rattle.policy_plain.proofs.Placing.{over_zero}
use Rattle.policy_plain.proofs.places.places_in.Goals as goal

pub returns : goal.returns
returns c = λ x small. c.note.ensures x small ∙ over_zero (place_in c.args.list.now x) _ (get_or-replicate 1024 x 0 0 small)
