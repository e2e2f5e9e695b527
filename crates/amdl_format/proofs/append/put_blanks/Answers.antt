use Rattle.std.proofs.Common.{◌≡◌, ◌++◌, codes, sym, ap, ◌∙◌, arith}
use Rattle.amdl_tree.proofs.AppendLemmas.{appended_after}
use Rattle.amdl_format.specs.Lines.{blanks}
use Rattle.amdl_format.proofs.LineLemmas.{blanks_more}
use Rattle.amdl_format.proofs.append.put_blanks.Goals as goal

pub loop-preserved : goal.loop-preserved
loop-preserved c =
    let old = c.args.out.now.items in
    let before = blanks c.loop.counter in record {
      text = appended_after old c.loop.out.items c.put_all.new.out.items before
          (codes "  ") c.loop.invariant.text c.in_ok-put_all.ensures.ok
          ∙ ap (λ text. old ++ text) (sym (blanks_more c.loop.counter));
      kept = λ front begun. c.put_all.ensures.kept front (c.loop.invariant.kept front begun);
    }

pub returns-clause-ok : goal.returns-clause-ok
returns-clause-ok c =
    let done : c.loop.counter ≡ c.args.level = omega arith in
    c.loop.invariant.text ∙ ap (λ level. c.args.out.now.items ++ blanks level) done
