-- Parts joined one after another.
use Rattle.std.proofs.Common.{◌≡◌, ◌∙◌, false, List, [], ◌∷◌, ◌++◌, length, drop, get_or, sym, ap, subst, append_assoc, append-nil}
use Rattle.std.specs.Prelude.{◌==◌}
use Rattle.std.proofs.lemmas.Bool.{false≢true}
use Rattle.table_core.specs.declared.cell.Cell.{Cell}
use Rattle.query_meaning.specs.Rows.{Numbered}
use Rattle.query_gather.specs.declared.partial.Partial.{Partial}
use Rattle.query_gather.specs.Partial.{Stands, StandForEach, MayJoin, MayJoinAll, IsAlike, joined}
use Rattle.query_gather.proofs.Alike.{alike_join}

-- the first part and the others
pub front : (rest left : List Partial) (part : Partial) → false ≡ (length rest == 0) → part ≡ get_or rest 0 part → left ≡ drop 1 rest → rest ≡ part ∷ left
front [] left part some first others = absurd (false≢true some)
front (p ∷ rest) left part some first others = ap (λ q. q ∷ rest) (sym first) ∙ ap (λ ps. part ∷ ps) (sym others)

-- after some of the parts were joined: all rows are those that the whole stands for and those of the parts that are left
pub record IsPartly (whole : Partial) (rest : List Partial) (all : List (Numbered Cell)) : Type 0 where
  pub done : List (Numbered Cell)
  pub left : List (List (Numbered Cell))
  pub stands : Stands whole done
  pub others : StandForEach rest left
  pub apart : MayJoinAll whole done left
  pub same : done ++ joined left ≡ all

pub partly_more : (whole new part : Partial) (rest : List Partial) (all : List (Numbered Cell)) → IsAlike whole new
    → ((rows more : List (Numbered Cell)) → Stands whole rows → Stands part more → MayJoin whole rows more → Stands new (rows ++ more))
    → IsPartly whole (part ∷ rest) all → IsPartly new rest all
partly_more whole new part rest all alike h p = by p.left p.others p.apart p.same where
  by : (left : List (List (Numbered Cell))) → StandForEach (part ∷ rest) left → MayJoinAll whole p.done left → p.done ++ joined left ≡ all → IsPartly new rest all
  by [] others apart same = absurd others
  by (more ∷ left) others apart same = record {
    done = p.done ++ more;
    left = left;
    stands = h p.done more p.stands others.0 apart.0;
    others = others.1;
    apart = alike_join whole new (p.done ++ more) left alike apart.1;
    same = append_assoc p.done more (joined left) ∙ same;
  }

pub partly_all : (whole : Partial) (all : List (Numbered Cell)) → IsPartly whole [] all → Stands whole all
partly_all whole all p = by p.left p.others p.same where
  by : (left : List (List (Numbered Cell))) → StandForEach [] left → p.done ++ joined left ≡ all → Stands whole all
  by [] others same = subst (Stands whole) (sym (append-nil p.done) ∙ same) p.stands
  by (more ∷ left) others same = absurd others
