-- Records that are known stay known.
use Rattle.std.proofs.Common.{◌≡◌, List, Option, Some, None, refl}
use Rattle.std.specs.Prelude.{[], ◌∷◌, IsSome}
use Rattle.prepare_look.specs.Records.{IsOver, Record, Takes}
use Rattle.prepare_look.specs.Reading.{known}

pub takes-known : (o n : Option (List Record)) (f : Record) → IsSome o → Takes o f n → IsSome n × (known o ≡ f ∷ known n)
takes-known None n f so t = absurd (cc so)
takes-known (Some rows) None f so t = absurd t
takes-known (Some rows) (Some rest) f so t = (refl, t)

pub over-known : (o : Option (List Record)) → IsSome o → IsOver o → known o ≡ []
over-known None so t = cc so
over-known (Some rows) so t = t
