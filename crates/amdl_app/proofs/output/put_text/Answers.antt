use Rattle.std.proofs.Common.{◌++◌, ℕ, List, sym, ap, subst, ◌∙◌, append_assoc, arith}
use Rattle.std.specs.Io.KnownBytes.{append_known}
use Rattle.outside.specs.Sink.{AppendsFront}
use Rattle.outside.proofs.SinkLemmas.{append_known-append, AppendsFront-longer, AppendsFront-after}
use Rattle.amdl_app.proofs.Words.{on_err}
use Rattle.amdl_app.proofs.output.put_text.Goals as goal

pub returns-in_err-put-clause-front : goal.returns-in_err-put-clause-front
returns-in_err-put-clause-front g c =
    let before = c.loop-piece.invariant.front in
    let part : AppendsFront (g.S.Sink.written c.loop-piece.out)
    (g.S.Sink.written c.put.new.self) c.loop-piece.rest.now =
    subst (AppendsFront (g.S.Sink.written c.loop-piece.out) (g.S.Sink.written c.put.new.self)) (sym c.in-Some.ensures.0)
    (AppendsFront-longer (g.S.Sink.written c.loop-piece.out)
    (g.S.Sink.written c.put.new.self) c.in-Some.piece.now c.in-Some.others.now c.in_err-put.ensures.partly) in
    on_err c.from_residual.result
    (AppendsFront (g.S.Sink.written c.args.out.now) (g.S.Sink.written c.put.new.self) c.args.text.now)
    (subst (AppendsFront (g.S.Sink.written c.args.out.now) (g.S.Sink.written c.put.new.self)) (sym before.1)
    (AppendsFront-after (g.S.Sink.written c.args.out.now) (g.S.Sink.written c.loop-piece.out)
    (g.S.Sink.written c.put.new.self) before.0 c.loop-piece.rest.now before.2 part))

pub loop-piece-preserved : goal.loop-piece-preserved
loop-piece-preserved g c =
    let before = c.loop-piece.invariant.front in
    record {
      later = omega (arith, c.loop-piece.invariant.later, c.put.ensures.later);
      front = (
        before.0 ++ c.in-Some.piece.now,
        before.1 ∙ ap (λ (rest : List ℕ). before.0 ++ rest) c.in-Some.ensures.0
            ∙ sym (append_assoc before.0 c.in-Some.piece.now c.in-Some.others.now),
        c.in_ok-put.ensures.appended ∙ ap (λ known. append_known known c.in-Some.piece.now) before.2
            ∙ append_known-append (g.S.Sink.written c.args.out.now) before.0 c.in-Some.piece.now,
      );
    }
