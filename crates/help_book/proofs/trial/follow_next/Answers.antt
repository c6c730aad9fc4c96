use Rattle.std.proofs.Common.{◌≡◌, ◌∙◌, ◌<◌, ◌+◌, ◌-◌, ◌^◌, ◌∷◌, [], ℕ, get_or, take, length, ap, sym, subst, arith}
use Rattle.std.proofs.lemmas.List.{take_more, length-reverse, reverse-append, length-take-le}
use Rattle.scan_story.specs.declared.entry.Entry.TheVariants.{Register}
use Rattle.scan_story.specs.Views.{History, past}
use Rattle.interest_book.specs.Stands.{Stands}
use Rattle.help_book.proofs.trial.follow_next.Goals as goal

pub note-requires : goal.note-requires
note-requires c =
    let es = c.args.entries.now in
    let i = c.args.i in
    let size : length (past (take i es)) ≡ i = length-reverse (take i es) ∙ length-take-le i es (omega (arith, c.requires.there)) in
    record {
      setting = c.args.s.now;
      history = past (take i es);
      stands = c.requires.stands;
      allowed = (c.in_ok-may_follow.ensures.0 (grind (arith, c.if-not-branch.false)));
      short = subst (λ (n : ℕ). n < 2 ^ 63 - 1) (sym size) c.requires.few;
    }

pub returns : goal.returns
returns c = λ yes.
    let es = c.args.entries.now in
    let i = c.args.i in
    let e = get_or es i (Register 0 0) in
    let after : past (take (i + 1) es) ≡ e ∷ past (take i es) = ap past (take_more es i (Register 0 0) c.requires.there) ∙ reverse-append (take i es) (e ∷ []) in
    subst (λ (h : History). Stands c.note.new.self c.args.s.now h) (sym after)
    (c.note.ensures c.args.s.now (past (take i es)) c.requires.stands (c.in_ok-may_follow.ensures.0 (grind (arith, c.if-not-branch.false))))
