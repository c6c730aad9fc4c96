use Rattle.sql_tokens.proofs.TokenLists.{within_more, found_more, only_more, refused_is, found_all, in_order}
use Rattle.sql_tokens.proofs.lexing.lex.Goals as goal

pub returns-in_default-clause-refused : goal.returns-in_default-clause-refused
returns-in_default-clause-refused c =
    refused_is c.args.bytes.now c.loop-at.at c.loop-at-test.true c.in_default.ensures c.loop-at.invariant.2

pub loop-at-preserved : goal.loop-at-preserved
loop-at-preserved c =
    let bs = c.args.bytes.now in let at = c.loop-at.at in let n = c.in-Some.n in let p = c.in-Some.piece in
    (within_more bs at n p c.in-Some.ensures c.loop-at-test.true, found_more bs at n p c.in-Some.ensures c.loop-at.tokens.items c.add.new.tokens.items c.in_ok-add.ensures c.loop-at.invariant.1, only_more bs at n p c.in-Some.ensures c.loop-at.invariant.2)

pub returns-clause-found : goal.returns-clause-found
returns-clause-found c = found_all c.args.bytes.now c.loop-at.at c.loop-at.tokens.items c.loop-at-test.false c.loop-at.invariant.1

pub returns-clause-in_order : goal.returns-clause-in_order
returns-clause-in_order c =
    in_order c.args.bytes.now c.loop-at.tokens.items (found_all c.args.bytes.now c.loop-at.at c.loop-at.tokens.items c.loop-at-test.false c.loop-at.invariant.1)
