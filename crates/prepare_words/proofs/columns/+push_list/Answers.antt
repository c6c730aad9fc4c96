use Rattle.std.proofs.Common.{◌∙◌, arith}
use Rattle.std.proofs.lemmas.Result.{err_from_is_err_and}
use Rattle.prepare_words.specs.Views.{columns_view}
use Rattle.prepare_words.proofs.Steps.{later, list_cut, list_end}
use Rattle.prepare_words.proofs.columns.+push_list.Goals as goal

pub returns-in_err-push_item-in-Some-clause-faulty : goal.returns-in_err-push_item-in-Some-clause-faulty
returns-in_err-push_item-in-Some-clause-faulty t c =
    let parts = c.in-Some.ensures.byte (omega arith) (λ w o h. h) in
    let cut = list_cut c.args.word (columns_view c.args.columns.now.items) c.args.text.now c.in-Some.item.now c.in-Some.behind.now parts.0 parts.1 parts.2 in
    let p = err_from_is_err_and c.from_residual.result c.from_residual.ensures.1 in
    rw (p.1, p.2) (rw cut (later _ _ _ c.in_err-push_item-in-Some.ensures.faulty))

pub returns-in_err-push_list-in-Some-clause-faulty : goal.returns-in_err-push_list-in-Some-clause-faulty
returns-in_err-push_list-in-Some-clause-faulty t c =
    let parts = c.in-Some.ensures.byte (omega arith) (λ w o h. h) in
    let cut = list_cut c.args.word (columns_view c.args.columns.now.items) c.args.text.now c.in-Some.item.now c.in-Some.behind.now parts.0 parts.1 parts.2 in
    let p = err_from_is_err_and c.from_residual-in_err-push_list-in-Some.result c.from_residual-in_err-push_list-in-Some.ensures.1 in
    rw (p.1, p.2) (rw (cut, c.in_ok-push_item-in-Some.ensures.read) c.in_err-push_list-in-Some.ensures.faulty)

pub returns-in_err-push_item-in-None-clause-faulty : goal.returns-in_err-push_item-in-None-clause-faulty
returns-in_err-push_item-in-None-clause-faulty t c =
    let end = list_end c.args.word (columns_view c.args.columns.now.items) c.args.text.now (c.in-None.ensures.byte (omega arith) (λ w o h. h)) in
    let p = err_from_is_err_and c.from_residual-in_err-push_item-in-None.result c.from_residual-in_err-push_item-in-None.ensures.1 in
    rw (p.1, p.2) (rw end c.in_err-push_item-in-None.ensures.faulty)

pub returns-in_ok-push_list-in-Some-clause-read : goal.returns-in_ok-push_list-in-Some-clause-read
returns-in_ok-push_list-in-Some-clause-read t c =
    let parts = c.in-Some.ensures.byte (omega arith) (λ w o h. h) in
    let cut = list_cut c.args.word (columns_view c.args.columns.now.items) c.args.text.now c.in-Some.item.now c.in-Some.behind.now parts.0 parts.1 parts.2 in
    rw (cut, c.in_ok-push_item-in-Some.ensures.read) c.in_ok-push_list-in-Some.ensures.read

pub returns-in_ok-push_item-in-None-clause-read : goal.returns-in_ok-push_item-in-None-clause-read
returns-in_ok-push_item-in-None-clause-read t c =
    list_end c.args.word (columns_view c.args.columns.now.items) c.args.text.now (c.in-None.ensures.byte (omega arith) (λ w o h. h)) ∙ c.in_ok-push_item-in-None.ensures.read
