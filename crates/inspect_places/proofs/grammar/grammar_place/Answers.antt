use Rattle.std.proofs.Common.{◌∙◌, ap}
use Rattle.inspect_places.specs.Near.{is_limit_at}
use Rattle.inspect_places.specs.Places.{told_most}
use Rattle.inspect_places.specs.Steps.{most}
use Rattle.inspect_places.specs.Foreign.{foreign_at, takes_text}
use Rattle.sql_text.proofs.ReadTexts.{stand_in}
use Rattle.inspect_places.proofs.GrammarPlaces.{whole_place}
use Rattle.inspect_places.proofs.grammar.grammar_place.Goals as goal

pub first_stop-number-requires : goal.first_stop-number-requires
first_stop-number-requires c = stand_in c.args.bytes.now c.args.tokens.now c.requires.in_order

pub returns : goal.returns
returns c = record {
  place = whole_place c.args.limited c.args.bytes.now c.args.tokens.now (record { span = c.span_of-span.result; stands = c.in_ok-stands.stands; is_table = c.is_table_at.result; most = c.most_at.result; foreign = c.foreign_at-foreign.result }) c.first_stop-number.result c.first_stop-number.ensures.stop c.span_of-span.ensures c.in_ok-stands.ensures (c.foreign_at-foreign.ensures ∙ ap (λ b. foreign_at c.args.bytes.now b c.args.tokens.now c.first_stop-number.result.0) (c.takes_text.ensures ∙ ap takes_text c.deref.ensures.value)) c.is_table_at.ensures (c.most_at.ensures ∙ ap (λ b. told_most b c.is_number_at-is_number.result (most c.args.limited c.first_stop-number.result.1)) c.is_limit_at-is_limit.ensures ∙ ap (λ b. told_most (is_limit_at c.args.bytes.now c.args.tokens.now c.first_stop-number.result.0) b (most c.args.limited c.first_stop-number.result.1)) c.is_number_at-is_number.ensures);
}
