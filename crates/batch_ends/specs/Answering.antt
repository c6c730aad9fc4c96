-- The answer to a query, by what came of its parts.
use Rattle.std.specs.Prelude.{◌≡◌, ◌≤◌, ◌⊎◌, ℕ, zero, suc, All, List, [], ◌∷◌, IsPermutation}
use Rattle.std.specs.Prelude.{length, map, take, drop, Option, None, Some, Result, Ok, Err}
use Rattle.scan_story.specs.declared.cause.Cause.{Cause}
use Rattle.scan_story.specs.declared.cause.Cause.TheVariants as cause
use Rattle.table_core.specs.declared.cell.Cell.{Cell}
use Rattle.query_meaning.specs.Rows.{Numbered}
use Rattle.sql_bind.specs.declared.plan.Plan.{Plan}
use Rattle.query_gather.specs.declared.answer.Answer.{Answer}
use Rattle.query_gather.specs.declared.partial.Partial.{Partial}
use Rattle.query_gather.specs.Answer.{IsAnswerOver}
use Rattle.query_gather.specs.Partial.{FitsPlan, MayJoinAll, StandForEach, joined, rows_of_all}
use Rattle.batch_ends.specs.Lost.{stop_of}
use Rattle.batch_ends.specs.declared.answering.Parts.{Parts}
use Rattle.batch_ends.specs.declared.answering.Parts.TheVariants as parts

-- what came of a scan
abbrev pub Came : Type 0
Came = Result Partial Cause

-- why the first of the parts that were stopped was stopped, in part order
abbrev pub first_cause : List Came → Option Cause
first_cause [] = None
first_cause (Ok partial ∷ rs) = first_cause rs
first_cause (Err why ∷ rs) = Some why

-- what is kept of the results of some parts: what they gathered, in part order, or why the first was stopped; memory
-- may have run out for it only where none was stopped
abbrev pub AreParts : List Came → Parts → Type 0
AreParts rs (parts.All all) = rs ≡ map Ok all.items
AreParts rs (parts.Stopped why) = first_cause rs ≡ Some why
AreParts rs parts.Short = first_cause rs ≡ None

-- what parts gathered may be joined: some of them are there, all fit one plan, and they have so few rows
pub record AreJoinable (all : List Partial) : Type 0 where
  pub some : 1 ≤ length all
  pub plan : Plan
  pub fit : All (FitsPlan plan) all
  pub few : rows_of_all all ≤ 2097152

abbrev pub MayAllJoin : Parts → Type 0
MayAllJoin (parts.All all) = AreJoinable all.items
MayAllJoin _ = Unit {0}

-- no two parts share a row
abbrev pub AreApart : List Partial → List (List (Numbered Cell)) → Type 0
AreApart (first ∷ rest) (rows ∷ lists) = MayJoinAll first rows lists
AreApart _ _ = Unit {0}

-- the answer to each plan that all parts fit, over the rows for which they stand together, in any order
abbrev pub AnswersParts : List Partial → Answer → Type 0
AnswersParts all a = (p : Plan) (lists : List (List (Numbered Cell))) (rows : List (Numbered Cell))
    → All (FitsPlan p) all → StandForEach all lists → AreApart all lists
    → IsPermutation (joined lists) rows → IsAnswerOver p rows a

-- a query is stopped for the first cause of its parts; where none of them was stopped it isn't, or is stopped when out
-- of memory
abbrev pub IsStoppedFor : Option Cause → Option Cause → Type 0
IsStoppedFor first lost = (lost ≡ first) ⊎ ((first ≡ None) × (lost ≡ Some cause.Memory))

-- THE ANSWER to a query, by what came of its parts
pub record IsAnswerOf (rs : List Came) (a : Answer) : Type 0 where
  pub lost : IsStoppedFor (first_cause rs) (stop_of a)
  pub over : (all : List Partial) → rs ≡ map Ok all → AnswersParts all a

-- of so many queries, each with so many results, the parts may be joined where none was stopped
abbrev pub AreAllJoinable : ℕ → ℕ → List Came → Type 0
AreAllJoinable parts zero rs = Unit {0}
AreAllJoinable parts (suc n) rs = (parts ≤ length rs)
    × ((all : List Partial) → take parts rs ≡ map Ok all → AreJoinable all) × AreAllJoinable parts n (drop parts rs)

-- the answers to the first queries, and the results that are left
abbrev pub AnswersSome : ℕ → List Came → List Answer → List Came → Type 0
AnswersSome parts rs [] left = left ≡ rs
AnswersSome parts rs (a ∷ answers) left = IsAnswerOf (take parts rs) a × AnswersSome parts (drop parts rs) answers left
