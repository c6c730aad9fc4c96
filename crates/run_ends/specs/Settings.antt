-- What settings ask of a run.
use Rattle.std.specs.Prelude.{None, false, string_bytes}
use Rattle.command_words.specs.Options.{Request}
use Rattle.scan_story.specs.declared.setting.PolicyName.TheVariants.{Relevance}
use Rattle.run_ends.specs.declared.settings.Settings.{Settings}

-- the request of the words that say the same and no more
abbrev pub asked_in_settings : Settings → Request
asked_in_settings s = record {
  workers = s.workers;
  frames = s.frames;
  per = s.per;
  layout = s.layout;
  parts = s.parts;
  scratch = None;
  policy = Relevance;
  summary = s.summary;
  trace = s.trace;
  compare = false;
  table = string_bytes s.table;
  batch = string_bytes s.batch;
}
