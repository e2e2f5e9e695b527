use Rattle.std.proofs.Common.{rules, arith, ◌≡◌, ℕ, nat_eq, not, ap, sym, ◌∙◌}
use Rattle.box_handlers.specs.Body.{formula_of_probe}
use Rattle.box_handlers.proofs.BodyLemmas.{formulas_read}
use Rattle.abstract_step.proofs.GuardLemmas.{probe_fits, list_fits, formula_same, deny_fits, probe_less, list_less}
use Rattle.abstract_step.proofs.GuardLemmas.{deny_less, group_less}
use Rattle.handler_runs.specs.Reading.{entry_by, holds_by}
use Rattle.abstract_step.specs.Masks.{marked}
use Rattle.abstract_step.specs.Walk.{scene_at}
use Rattle.abstract_step.proofs.MaskLemmas.{none_in}
use Rattle.abstract_step.proofs.guards.+tests.Goals as goal

pub all_hold-probe_holds-requires : goal.all_hold-probe_holds-requires
all_hold-probe_holds-requires t c =
    let less =
    probe_less c.args.probes.now c.loop-probe.probe-index c.probe-item.result (search rules) (search rules) in (
      omega (arith, less, c.decreases),
      (
        c.requires.place,
        probe_fits c.args.place.now c.args.picked.now c.args.probes.now c.loop-probe.probe-index c.probe-item.result
            (search rules) (search rules) c.requires.fits,
      ),
    )

pub test_holds-all_hold-requires : goal.test_holds-all_hold-requires
test_holds-all_hold-requires t c =
    let less =
    list_less c.args.test.now c.loop-probes.probes-index c.as_slice.result.now (search rules) (search rules) in (
      omega (arith, less, c.decreases),
      (
        c.requires.place,
        list_fits c.args.place.now c.args.picked.now c.args.test.now c.loop-probes.probes-index c.as_slice.result.now
            (search rules) (search rules) c.requires.fits,
      ),
    )

pub probe_holds-entry_of-requires-clause-fits : goal.probe_holds-entry_of-requires-clause-fits
probe_holds-entry_of-requires-clause-fits t c =
    formula_same c.args.place.now c.args.picked.now _ _
    (ap formula_of_probe c.in-Has.is ∙ formulas_read.has c.in-Has.query) c.requires.fits

pub probe_holds-returns-else-mask-ne0 : goal.probe_holds-returns-else-mask-ne0
probe_holds-returns-else-mask-ne0 t c =
    let scene = scene_at c.args.place.now c.args.picked.now in
    let none : c.args.mask ≡ 0 = search rules in
    ap (λ (mask : ℕ). not (nat_eq mask 0)) none
    ∙ none_in c.args.place.now.tuples.now c.args.mask (entry_by scene c.in-Has.query) none
    ∙ sym (ap (holds_by scene (marked c.args.place.now.tuples.now c.args.mask))
    (ap formula_of_probe c.in-Has.is ∙ formulas_read.has c.in-Has.query))

pub probe_holds-denied-requires : goal.probe_holds-denied-requires
probe_holds-denied-requires t c =
    let less = deny_less c.args.probe.now c.in-Not.inner c.value.result.now c.in-Not.is c.value.ensures in (
      omega (arith, less, c.decreases),
      (
        c.requires.place,
        deny_fits c.args.place.now c.args.picked.now c.args.probe.now c.in-Not.inner c.value.result.now c.in-Not.is
            c.value.ensures c.requires.fits,
      ),
    )

pub probe_holds-test_holds-requires : goal.probe_holds-test_holds-requires
probe_holds-test_holds-requires t c =
    let less = group_less c.args.probe.now c.in-Group.test c.in-Group.is in (
      omega (arith, less, c.decreases),
      (
        c.requires.place,
        formula_same c.args.place.now c.args.picked.now _ _
            (ap formula_of_probe c.in-Group.is ∙ formulas_read.group c.in-Group.test) c.requires.fits,
      ),
    )
