use Rattle.std.proofs.Common.{rules, ◌≡◌, Bool, true, false, sym, ◌∙◌}
use Rattle.abstract_step.specs.declared.place.Place.{Place}
use Rattle.abstract_step.specs.declared.found.Found.{Found}
use Rattle.abstract_step.proofs.ResultLemmas.{cleared, can_walk, walked, none_walked}
use Rattle.abstract_step.proofs.paths.fire_now.Goals as goal

pub returns-then-not-is_consistent-clause-fired : goal.returns-then-not-is_consistent-clause-fired
returns-then-not-is_consistent-clause-fired c =
    let place : Place = record {
      net = c.args.net;
      b = c.args.b;
      p = c.args.p;
      fields = record { ref_ptr = c.args.net.ref_ptr; now = c.read_fields.new.fields };
      tuples = c.as_slice-tuples.result;
    } in
    let no : c.is_consistent.result ≡ false = search rules in
    none_walked c.laws.ensures place c.sound.ensures c.args.port c.args.v c.requires.boxed c.requires.port
    c.requires.packet (c.as_slice-tuples.ensures.value ∙ c.read_tuples.ensures.tuples)
    (record { endings = c.clear.new.self; writes = c.clear-2.new.self; puts = c.clear-3.new.self })
    c.clear.ensures.items
    (λ e. absurd (let wrong : ◌≡◌ {A = Bool} false true = sym no ∙ c.is_consistent.ensures.1 e in cc))

pub block-requires : goal.block-requires
block-requires c =
    let found : Found =
    record { endings = c.clear.new.self; writes = c.clear-2.new.self; puts = c.clear-3.new.self } in
    can_walk c.laws.ensures _ c.sound.ensures c.args.port c.args.v c.requires.boxed c.requires.port
    c.requires.packet (c.as_slice-tuples.ensures.value ∙ c.read_tuples.ensures.tuples)
    (c.read_fields.ensures ∙ search rules) c.args.trail.now c.requires.lists found
    (cleared c.args.found.now found c.requires.spacious c.clear.ensures.items c.clear.ensures.capacity
    c.clear-2.ensures.capacity c.clear-3.ensures.capacity)
    c.clear.ensures.len c.clear-2.ensures.len c.clear-3.ensures.len c.handler.result.now c.handler.ensures

pub returns-clause-fired : goal.returns-clause-fired
returns-clause-fired c =
    let place : Place = record {
      net = c.args.net;
      b = c.args.b;
      p = c.args.p;
      fields = record { ref_ptr = c.args.net.ref_ptr; now = c.read_fields.new.fields };
      tuples = c.as_slice-tuples.result;
    } in
    let found : Found =
    record { endings = c.clear.new.self; writes = c.clear-2.new.self; puts = c.clear-3.new.self } in
    let yes : c.is_consistent.result ≡ true = search rules in
    walked c.laws.ensures place c.sound.ensures c.args.port c.args.v c.requires.boxed c.requires.port
    c.requires.packet (c.as_slice-tuples.ensures.value ∙ c.read_tuples.ensures.tuples) c.args.trail.now found
    c.block.new.found c.handler.result.now c.handler.ensures c.block.ensures.gains c.clear.ensures.items
    (c.is_consistent.ensures.0 yes)
