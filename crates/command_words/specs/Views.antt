-- What contracts see of the structs that borrow.
use Rattle.std.specs.Prelude.{option_map}
use Rattle.command_words.specs.Options as asked
use Rattle.command_words.specs.Options.{TableIs, file, generated, BatchIs, generated_batch, batch_file}
use Rattle.command_words.specs.declared.names.Table.{Table}
use Rattle.command_words.specs.declared.names.Table.TheVariants as table
use Rattle.command_words.specs.declared.names.Batch.{Batch}
use Rattle.command_words.specs.declared.names.Batch.TheVariants as batch
use Rattle.command_words.specs.declared.request.Request.{Request}
use Rattle.command_words.specs.declared.values.Values.{Values}

abbrev pub table_view : Table → TableIs
table_view (table.Generated seed rows) = generated seed rows
table_view (table.File name) = file name.now

abbrev pub batch_view : Batch → BatchIs
batch_view batch.Generated = generated_batch
batch_view (batch.File name) = batch_file name.now

abbrev pub values_view : Values → asked.Values
values_view v = record {
  threads = option_map (λ s. s.now) v.threads;
  frames = option_map (λ s. s.now) v.frames;
  rows = option_map (λ s. s.now) v.rows;
  layout = option_map (λ s. s.now) v.layout;
  parts = option_map (λ s. s.now) v.parts;
  scratch = option_map (λ s. s.now) v.scratch;
  policy = option_map (λ s. s.now) v.policy;
  summary = v.summary;
  trace = v.trace;
  compare = v.compare;
  table = option_map (λ s. s.now) v.table;
  batch = option_map (λ s. s.now) v.batch;
}

abbrev pub request_view : Request → asked.Request
request_view r = record {
  workers = r.workers;
  frames = r.frames;
  per = r.per;
  layout = r.layout;
  parts = r.parts;
  scratch = option_map (λ s. s.now) r.scratch;
  policy = r.policy;
  summary = r.summary;
  trace = r.trace;
  compare = r.compare;
  table = r.table.now;
  batch = r.batch.now;
}
