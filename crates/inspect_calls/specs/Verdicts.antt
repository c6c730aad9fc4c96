-- The text of a verdict.
use Rattle.std.specs.Prelude.{◌≡◌, ◌++◌, ℕ, List, [], Option, None, Some, codes, decimal}
use Rattle.inspect_verdict.specs.Lines.{line_in}
use Rattle.inspect_verdict.specs.declared.parting.Parting.{Parting}
use Rattle.inspect_verdict.specs.declared.unfit.Unfit.{Unfit}
use Rattle.inspect_verdict.specs.declared.unfit.Unfit.TheVariants as unfit
use Rattle.inspect_verdict.specs.declared.verdict.Verdict.{Verdict}
use Rattle.inspect_verdict.specs.declared.verdict.Verdict.TheVariants as verdict
use Rattle.inspect_referee.specs.declared.counts.Counts.{Counts}
use Rattle.inspect_referee.specs.declared.ruling.Reason.{Reason}
use Rattle.inspect_calls.specs.Excerpts.{TellsFound, TellsParting}
use Rattle.inspect_calls.specs.Reasons.{reason_text}

-- a text with a number behind some words
abbrev pub with_number : List ℕ → ℕ → List ℕ → List ℕ
with_number words n before = before ++ (words ++ decimal n)

-- how many entries of each kind there are
abbrev pub counts_text : Counts → List ℕ → List ℕ
counts_text c before =
    with_number (codes ", end ") c.ends
    (with_number (codes ", stop ") c.stops
    (with_number (codes ", release ") c.releases (with_number (codes ", deliver ") c.delivers
    (with_number (codes ", failed ") c.failed
    (with_number (codes ", filled ") c.filled
    (with_number (codes ", fill ") c.fills (with_number (codes ", evict ") c.evicts
    (with_number (codes ", plan ") c.plans (with_number (codes "\nregister ") c.registers before)))))))))

-- how many entries there are and how many reads, and how many reads separate scans would make
abbrev pub legal_text : ℕ → ℕ → ℕ → Counts → List ℕ
legal_text entries reads apart c =
    counts_text c (with_number (codes " reads, at most ") apart
    (with_number (codes ", ") reads (codes "legal: " ++ (decimal entries ++ codes " entries")))) ++ codes "\n"

-- an entry that may not come, and why
abbrev pub illegal_words : ℕ → Reason → List ℕ
illegal_words line why = codes "not legal: line " ++ (decimal line ++ (codes " " ++ reason_text why))

-- why an entry doesn't fit the words of the run
abbrev pub unfit_words : Unfit → List ℕ
unfit_words (unfit.OutOfOrder (Some query)) = codes "the worker registers query " ++ (decimal query ++ codes " next")
unfit_words (unfit.OutOfOrder None) = codes "the worker has registered each of its queries"
unfit_words unfit.InMemory = codes "without --scratch no read fails"
unfit_words (unfit.CountFell count) = codes "the count of faults had come to " ++ (decimal count ++ codes " before")
unfit_words unfit.NoSuchWord = codes "the piece has no such word"

abbrev pub unfit_line_words : ℕ → Unfit → List ℕ
unfit_line_words line why =
    codes "not legal: line " ++ (decimal line ++ (codes " may not come: " ++ unfit_words why))

-- a statement for which nothing stands
abbrev pub unanswered_words : ℕ → ℕ → List ℕ
unanswered_words query line =
    codes "not legal: line " ++ (decimal line ++ (codes " isn't what query " ++ (decimal query ++ codes " prints")))

-- the words of a verdict that is a no
abbrev pub verdict_words : Verdict → List ℕ
verdict_words (verdict.Legal entries reads apart counts) = []
verdict_words (verdict.NotAnswered query p) = unanswered_words query p.line
verdict_words (verdict.NoSummary line) =
    codes "not legal: no summary stands behind the answers, at line " ++ decimal line
verdict_words (verdict.NoTrace line) = codes "not legal: no trace stands behind the answers, at line " ++ decimal line
verdict_words (verdict.NotStory line) = codes "not legal: line " ++ (decimal line ++ codes " is no entry")
verdict_words (verdict.Illegal line place reason) = illegal_words line reason
verdict_words (verdict.Unfit line place why) = unfit_line_words line why
verdict_words (verdict.NotWhole line) =
    codes "not legal: a query isn't over, or something is left open, at the end before line " ++ decimal line
verdict_words (verdict.Differs p) =
    codes "not legal: line " ++ (decimal p.line ++ codes " isn't what a run with this story prints")

-- the line that it tells
abbrev pub verdict_line : Verdict → ℕ
verdict_line (verdict.Legal entries reads apart counts) = 0
verdict_line (verdict.NotAnswered query p) = p.line
verdict_line (verdict.NoSummary line) = line
verdict_line (verdict.NoTrace line) = line
verdict_line (verdict.NotStory line) = line
verdict_line (verdict.Illegal line place reason) = line
verdict_line (verdict.Unfit line place why) = line
verdict_line (verdict.NotWhole line) = line
verdict_line (verdict.Differs p) = p.line

-- where OUTPUT parts from what should stand there, if that is known byte by byte
abbrev pub verdict_parting : Verdict → Option Parting
verdict_parting (verdict.NotAnswered query p) = Some p
verdict_parting (verdict.Differs p) = Some p
verdict_parting _ = None

-- THE TEXT of a no about OUTPUT: its words, and what stands in the line; and what should stand there, and from which
-- byte on they part, if that is known
abbrev pub IsNoText : List ℕ → List ℕ → ℕ → Option Parting → List ℕ → Type 0
IsNoText out words line None text = TellsFound words (line_in line out) text
IsNoText out words line (Some p) text = TellsParting words p text

-- the lines of a verdict on OUTPUT
abbrev pub IsVerdictText : List ℕ → Verdict → List ℕ → Type 0
IsVerdictText out (verdict.Legal entries reads apart counts) text = text ≡ legal_text entries reads apart counts
IsVerdictText out v text = IsNoText out (verdict_words v) (verdict_line v) (verdict_parting v) text

-- 0 for yes, and 1 for no
abbrev pub verdict_status : Verdict → ℕ
verdict_status (verdict.Legal entries reads apart counts) = 0
verdict_status _ = 1
