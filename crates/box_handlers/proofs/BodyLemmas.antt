-- How statements and probes are read, one equation for each of them.
use Rattle.std.proofs.Common.{◌≡◌, true, false, map, refl, ap, ◌∙◌}
use Rattle.box_handlers.specs.declared.act.Test.{Test}
use Rattle.box_handlers.specs.declared.act.Probe.{Probe}
use Rattle.box_handlers.specs.declared.act.Probe.TheVariants as probe
use Rattle.box_handlers.specs.declared.act.Probe.TheOpen.{Probe-F}
use Rattle.box_handlers.specs.declared.act.Probe.TheViews.{out-Probe, outs-True, outs-Has, outs-Same, outs-Differ}
use Rattle.box_handlers.specs.declared.act.Probe.TheViews.{outs-Not, outs-Group}
use Rattle.box_handlers.specs.declared.act.Probe.TheFolds.{map-Probe, fold_out-Probe, fold_out-Test}
use Rattle.box_handlers.specs.declared.act.Branch.{Branch}
use Rattle.box_handlers.specs.declared.act.Act.{Act}
use Rattle.box_handlers.specs.declared.act.Act.TheVariants as act
use Rattle.box_handlers.specs.declared.act.Act.TheOpen.{Act-F}
use Rattle.box_handlers.specs.declared.act.Act.TheViews.{out-Act, outs-Insert, outs-Remove, outs-Output, outs-Abort}
use Rattle.box_handlers.specs.declared.act.Act.TheViews.{outs-Choose, outs-Pick}
use Rattle.box_handlers.specs.declared.act.Act.TheFolds.{map-Act, fold_out-Act, fold_out-Branch}
use Rattle.box_handlers.specs.Body.{Formula, Truth, Holds, Alike, Unlike, Denied, Grouped, Body, Writes, Emit, Halt}
use Rattle.box_handlers.specs.Body.{Fork, Each, Branches, OneBranch, any_of, probe_layer, test_layer, formula_of_probe}
use Rattle.box_handlers.specs.Body.{formula_of, act_layer, branch_layer, before_of_act, before_of_branch, body_of}
use Rattle.box_handlers.specs.Body.{branches_of, BodiesAreRead, FormulasAreRead}

-- one probe, whose parts are read by the whole reading
probe_step : Probe-F Probe Test → Formula
probe_step Probe-F.True = Truth
probe_step (Probe-F.Has query) = Holds query
probe_step (Probe-F.Same one two) = Alike one two
probe_step (Probe-F.Differ one two) = Unlike one two
probe_step (Probe-F.Not inner) = Denied (formula_of_probe inner)
probe_step (Probe-F.Group test) = Grouped (formula_of test)

probe_laid : (layer : Probe-F Probe Test) →
    probe_layer (map-Probe Probe Test Formula Formula formula_of_probe formula_of layer) ≡ probe_step layer
unfolding probe_step
probe_laid Probe-F.True = refl
probe_laid (Probe-F.Has query) = refl
probe_laid (Probe-F.Same one two) = refl
probe_laid (Probe-F.Differ one two) = refl
probe_laid (Probe-F.Not inner) = refl
probe_laid (Probe-F.Group test) = refl

probe_is : (inner : Probe) → formula_of_probe inner ≡ probe_step (out-Probe inner)
unfolding formula_of_probe formula_of
probe_is inner = fold_out-Probe Formula Formula probe_layer test_layer inner ∙ probe_laid (out-Probe inner)

test_is : (test : Test) → formula_of test ≡ any_of (map (map formula_of_probe) test.any)
unfolding formula_of_probe formula_of
test_is test = fold_out-Test Formula Formula probe_layer test_layer test

pub formulas_read : FormulasAreRead
unfolding probe_step
formulas_read = record {
  test = test_is;
  always = probe_is probe.True ∙ ap probe_step outs-True;
  has = λ query. probe_is (probe.Has query) ∙ ap probe_step (outs-Has query);
  same = λ one two. probe_is (probe.Same one two) ∙ ap probe_step (outs-Same one two);
  differ = λ one two. probe_is (probe.Differ one two) ∙ ap probe_step (outs-Differ one two);
  deny = λ inner. probe_is (probe.Not inner) ∙ ap probe_step (outs-Not inner);
  group = λ test. probe_is (probe.Group test) ∙ ap probe_step (outs-Group test);
}

-- one statement, whose parts are read by the whole reading
act_step : Act-F Act Branch → Body → Body
act_step (Act-F.Insert query) rest = Writes query true rest
act_step (Act-F.Remove query) rest = Writes query false rest
act_step (Act-F.Output port changes) rest = Emit port changes rest
act_step Act-F.Abort rest = Halt rest
act_step (Act-F.Choose branches) rest = Fork (branches_of branches) rest
act_step (Act-F.Pick values body) rest = Each values (body_of body) rest

act_laid : (layer : Act-F Act Branch) →
    act_layer (map-Act Act Branch (Body → Body) (Branches → Branches) before_of_act before_of_branch layer)
    ≡ act_step layer
unfolding act_step
act_laid (Act-F.Insert query) = refl
act_laid (Act-F.Remove query) = refl
act_laid (Act-F.Output port changes) = refl
act_laid Act-F.Abort = refl
act_laid (Act-F.Choose branches) = refl
act_laid (Act-F.Pick values body) = refl

act_is : (one : Act) → before_of_act one ≡ act_step (out-Act one)
unfolding before_of_act before_of_branch
act_is one = fold_out-Act (Body → Body) (Branches → Branches) act_layer branch_layer one ∙ act_laid (out-Act one)

branch_is : (branch : Branch) →
    before_of_branch branch ≡ (λ more. OneBranch (formula_of branch.guard) (body_of branch.body) more)
unfolding before_of_act before_of_branch
branch_is branch = fold_out-Branch (Body → Body) (Branches → Branches) act_layer branch_layer branch

-- what a statement puts in front of the rest, once its variant is known
before : (one : Act) (layer : Act-F Act Branch) → out-Act one ≡ layer → (rest : Body) →
    before_of_act one rest ≡ act_step layer rest
before one layer shown rest = ap (λ f. f rest) (act_is one ∙ ap act_step shown)

pub bodies_read : BodiesAreRead
unfolding act_step
bodies_read = record {
  none = refl;
  insert = λ query rest. before (act.Insert query) (Act-F.Insert query) (outs-Insert query) (body_of rest);
  remove = λ query rest. before (act.Remove query) (Act-F.Remove query) (outs-Remove query) (body_of rest);
  output = λ port changes rest. before (act.Output port changes) (Act-F.Output port changes) (outs-Output port changes)
      (body_of rest);
  abort = λ rest. before act.Abort Act-F.Abort outs-Abort (body_of rest);
  choose = λ branches rest. before (act.Choose branches) (Act-F.Choose branches) (outs-Choose branches) (body_of rest);
  pick = λ values body rest. before (act.Pick values body) (Act-F.Pick values body) (outs-Pick values body)
      (body_of rest);
  no_branch = refl;
  branch = λ branch more. ap (λ f. f (branches_of more)) (branch_is branch);
}
