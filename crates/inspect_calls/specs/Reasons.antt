-- Why an entry may not come, in words.
use Rattle.std.specs.Prelude.{◌++◌, ℕ, List, codes, decimal}
use Rattle.std.specs.Fmt.{signed_decimal}
use Rattle.inspect_referee.specs.declared.rank.Choice.{Choice}
use Rattle.inspect_referee.specs.declared.rank.Choice.TheVariants as choice
use Rattle.inspect_referee.specs.declared.rank.Rank.{Rank}
use Rattle.inspect_referee.specs.declared.rank.Rank.TheVariants as rank
use Rattle.inspect_referee.specs.declared.rule.Rule.{Rule}
use Rattle.inspect_referee.specs.declared.rule.Rule.TheVariants as rule
use Rattle.inspect_referee.specs.declared.ruling.Reason.{Reason}
use Rattle.inspect_referee.specs.declared.ruling.Reason.TheVariants as reason

-- the rule that is broken
abbrev pub rule_words : Rule → List ℕ
rule_words rule.First = codes "the query has registered before"
rule_words rule.OnWorker = codes "the query is another worker's"
rule_words rule.Alone = codes "another query of the worker is active"
rule_words rule.HoldsNothing = codes "the worker holds a chunk"
rule_words rule.LoadsNothing = codes "the worker has a load underway"
rule_words rule.IsWorker = codes "there is no such worker"
rule_words rule.NoneUnderway = codes "a load is underway"
rule_words rule.Starved = codes "the query isn't active, or has two chunks available"
rule_words rule.Target = codes "the query doesn't need the chunk, or its pieces are all in frames"
rule_words rule.OwnLoad = codes "no load of the worker is underway"
rule_words rule.NoneBegun = codes "the load has begun a fill"
rule_words rule.TooFew = codes "enough frames are free"
rule_words rule.Victim = codes "the chunk may not be evicted"
rule_words rule.Enough = codes "too few frames are free"
rule_words rule.IsFrame = codes "there is no such frame"
rule_words rule.Free = codes "the frame isn't free"
rule_words rule.Missing = codes "the load doesn't miss the piece"
rule_words rule.NotBegun = codes "the load has begun the piece before"
rule_words rule.Begun = codes "the load hasn't begun the piece there"
rule_words rule.NotFilled = codes "the piece is filled already"
rule_words rule.AllBegun = codes "the load hasn't begun each of its pieces"
rule_words rule.ForQuery = codes "the load was planned for another query"
rule_words rule.Reason = codes "the count of faults didn't rise"
rule_words rule.Active = codes "the query isn't active"
rule_words rule.Ready = codes "the chunk isn't available to the query"
rule_words rule.Holds = codes "the worker doesn't hold the chunk for the query"
rule_words rule.NeedsNothing = codes "the query still needs a chunk"

-- what the entry chooses
abbrev pub choice_words : Choice → List ℕ
choice_words choice.Trigger = codes "loads for another query than"
choice_words choice.Load = codes "loads another chunk than"
choice_words choice.Delivery = codes "delivers another chunk than"
choice_words choice.Victim = codes "evicts another chunk than"

-- what a choice is compared by
abbrev pub rank_text : Rank → List ℕ
rank_text (rank.Urgency urgency) = codes "urgency " ++ signed_decimal urgency
rank_text (rank.Waited entries) = decimal entries ++ codes " entries waited"
rank_text (rank.Gain ratio) = codes "gain " ++ (decimal ratio.num ++ (codes "/" ++ decimal ratio.den))
rank_text (rank.Loss ratio) = codes "loss " ++ (decimal ratio.num ++ (codes "/" ++ decimal ratio.den))
rank_text (rank.Steps steps) = decimal steps ++ codes " steps"
rank_text (rank.Fitness close key) = codes "close to " ++ (decimal close ++ (codes ", key " ++ decimal key))

-- the rule, or the better choice that there was, with both ranks
abbrev pub reason_text : Reason → List ℕ
reason_text (reason.Broken rule) = codes "may not come: " ++ rule_words rule
reason_text (reason.Outdone b) =
    choice_words b.choice
    ++ (codes " " ++ (decimal b.number
    ++ (codes ", which was better: " ++ (rank_text b.rank ++ (codes " before " ++ rank_text b.taken)))))
