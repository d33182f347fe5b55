-- The source that begins answers the lines.
use Rattle.std.proofs.Common.{◌∙◌, sym, subst}
use Rattle.std.proofs.KnownBytes.{Keeps-refl}
use Rattle.abt_live_files.specs.Opened.{BeginsBy}
use Rattle.abt_live_files.specs.Served.{BeginsSource, ServesSource}
use Rattle.abt_live_files.proofs.Stops.{file_stops}
use Rattle.abt_live_files.proofs.source.source.Goals as goal

pub returns-in-Err-open_source-clause-err : goal.returns-in-Err-open_source-clause-err
returns-in-Err-open_source-clause-err g c =
    file_stops g.T.Store.SeqStore.content g.T.File.Write.contents c.in-Err-open_source.stop _ c.args.plan.now _ _ _ c.in-Err-open_source.ensures.err (
      (c.in-Some.vc, record { scenario = c.in-Ok.scenario; read = c.in-Ok.ensures.ok; channel = sym c.channel_of.ensures ∙ c.in-Some.is }),
      Keeps-refl _,
    )

pub returns-in-Ok-serve_source-clause-ok : goal.returns-in-Ok-serve_source-clause-ok
returns-in-Ok-serve_source-clause-ok g c = record {
  vc = c.in-Some.vc;
  has = record { scenario = c.in-Ok.scenario; read = c.in-Ok.ensures.ok; channel = sym c.channel_of.ensures ∙ c.in-Some.is };
  first = c.new-lines.result;
  begun = record {
    conn_is = c.new-lines.ensures.conn;
    vc_is = c.new-lines.ensures.vc;
    past = c.in-Ok-open_source.begun.past;
    begins = subst (λ j. BeginsBy g.T.File.Write.contents c.args.plan.now.conn c.args.plan.now.is_new c.in-Ok-open_source.begun.past j)
        (sym c.new-lines.ensures.journal) c.in-Ok-open_source.ensures.begins;
    store = c.in-Ok-open_source.begun.store;
    source_is = c.new-lines.ensures.source;
  };
  served = subst (λ p. ServesSource g.T.File.Write.contents c.args.plan.now.epoch c.args.plan.now.is_binary c.new-lines.result p
      (g.R.Read.remaining c.args.reader.now) (g.W.Write.contents c.args.writer.now) (g.W.Write.contents c.serve_source.new.writer)) c.first_port_of-first_port.ensures c.in-Ok-serve_source.ensures.ok;
}

pub returns-clause-err : goal.returns-clause-err
returns-clause-err g c = record {
  vc = c.in-Some.vc;
  has = record { scenario = c.in-Ok.scenario; read = c.in-Ok.ensures.ok; channel = sym c.channel_of.ensures ∙ c.in-Some.is };
  first = c.new-lines.result;
  begun = record {
    conn_is = c.new-lines.ensures.conn;
    vc_is = c.new-lines.ensures.vc;
    past = c.in-Ok-open_source.begun.past;
    begins = subst (λ j. BeginsBy g.T.File.Write.contents c.args.plan.now.conn c.args.plan.now.is_new c.in-Ok-open_source.begun.past j)
        (sym c.new-lines.ensures.journal) c.in-Ok-open_source.ensures.begins;
    store = c.in-Ok-open_source.begun.store;
    source_is = c.new-lines.ensures.source;
  };
  part = subst (λ p. BeginsSource g.T.File.Write.contents c.args.plan.now.epoch c.args.plan.now.is_binary c.new-lines.result p
      (g.R.Read.remaining c.args.reader.now) (g.W.Write.contents c.args.writer.now) (g.W.Write.contents c.serve_source.new.writer)) c.first_port_of-first_port.ensures c.in-Err-serve_source.ensures.err;
}
