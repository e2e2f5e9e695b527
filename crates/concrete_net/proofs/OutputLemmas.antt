-- Packets that a box puts out, one after another, and how they are taken back.
use Rattle.std.proofs.Common.{◌≡◌, ℕ, suc, ◌-◌, ◌<◌, ◌≤◌, List, [], ◌∷◌, ◌++◌, Some, length, map, slice_set, refl, sym}
use Rattle.std.proofs.Common.{ap, subst, ◌∙◌, arith, take, drop, take_all, get_or}
use Rattle.std.specs.Prelude.{slice_get}
use Rattle.std.specs.List.{remove}
use Rattle.std.proofs.lemmas.List.{length-append}
use Rattle.box_executions.specs.Execution.{Emission}
use Rattle.handler_runs.specs.declared.progress.Emission.{Emission as Sent}
use Rattle.handler_runs.specs.Code.{emission_of}
use Rattle.net_plan.specs.declared.plan.Plan.{Plan}
use Rattle.net_plan.specs.declared.fact.Place.TheVariants.{Port}
use Rattle.net_plan.specs.Ends.{IsEndAt, IsLinked}
use Rattle.net_runs.specs.declared.world.World.{World}
use Rattle.net_runs.proofs.ListLemmas.{some_inside, get_set_same}
use Rattle.concrete_net.specs.PutOut.{world_of, PutsOutThere, PutsOutAllThere}
use Rattle.concrete_net.proofs.ChannelLemmas.{set_twice, given_back}

-- the last one is taken out

last_of : (packets : List ℕ) (packet : ℕ) →
    remove (packets ++ packet ∷ []) (length (packets ++ packet ∷ []) - 1) ≡ packets
last_of packets packet =
    let long : length (packets ++ packet ∷ []) - 1 ≡ length packets = omega (arith, length-append packets (packet ∷ []))
    in ap (remove (packets ++ packet ∷ [])) long ∙ front_of packets packet
  where
    front_of : (xs : List ℕ) (x : ℕ) → remove (xs ++ x ∷ []) (length xs) ≡ xs
    front_of [] x = refl
    front_of (y ∷ xs) x = ap (λ (l : List ℕ). y ∷ l) (front_of xs x)

pub last_out : (old : List (List ℕ)) (end : ℕ) (there none packets : List ℕ) → slice_get old end ≡ Some there →
    slice_get old end ≡ Some packets →
    slice_set (slice_set old end none) end (remove there (length there - 1))
    ≡ slice_set old end (remove packets (length packets - 1))
last_out old end there none packets one two =
    set_twice old end none (remove there (length there - 1))
    ∙ ap (λ (l : List ℕ). slice_set old end (remove l (length l - 1))) (some_inside (sym one ∙ two))

module _ (plan : Plan) (end packet : ℕ) (before now : List (List ℕ)) (less : end < length before)
    (puts : PutsOutThere plan end packet before now) where
  put_there : (other : ℕ) → IsLinked plan end other →
      (packets : List ℕ) × (slice_get before end ≡ Some packets)
      × (now ≡ slice_set before end (packets ++ packet ∷ []))
  put_there other linked =
      let last = (puts []).linked other linked in
      (last.packets, last.waits, ap (λ (w : World). w.waiting) last.leaves)

  now_there : (other : ℕ) (linked : IsLinked plan end other) →
      slice_get now end ≡ Some ((put_there other linked).0 ++ packet ∷ [])
  now_there other linked =
      let put = put_there other linked in
      ap (λ (l : List (List ℕ)). slice_get l end) put.2 ∙ get_set_same before end (put.0 ++ packet ∷ []) less

  pub some_there : (other : ℕ) (packets : List ℕ) → IsLinked plan end other → slice_get now end ≡ Some packets →
      0 < length packets
  some_there other packets linked there =
      let put = put_there other linked in
      let same : put.0 ++ packet ∷ [] ≡ packets = some_inside (sym (now_there other linked) ∙ there) in
      let long : length (put.0 ++ packet ∷ []) ≡ length packets = ap length same in
      omega (arith, long, length-append put.0 (packet ∷ []))

  pub taken_back : (other : ℕ) (new : List (List ℕ)) → IsLinked plan end other →
      ((packets : List ℕ) → slice_get now end ≡ Some packets →
      new ≡ slice_set now end (remove packets (length packets - 1))) → new ≡ before
  taken_back other new linked taken =
      let put = put_there other linked in
      taken (put.0 ++ packet ∷ []) (now_there other linked)
      ∙ ap (slice_set now end) (last_of put.0 packet)
      ∙ ap (λ (l : List (List ℕ)). slice_set l end put.0) put.2
      ∙ given_back before end put.0 (put.0 ++ packet ∷ []) put.1

  pub none_put : ((other : ℕ) → IsLinked plan end other → ⊥) → now ≡ before
  none_put none = ap (λ (w : World). w.waiting) ((puts []).unlinked none)

-- one after another

pub all_put : (plan : Plan) (box end : ℕ) (emission : Emission) (emissions : List Emission)
    (old mid new : List (List ℕ)) → IsEndAt plan end (Port box emission.port) →
    PutsOutThere plan end emission.packet old mid → PutsOutAllThere plan box emissions mid new →
    PutsOutAllThere plan box (emission ∷ emissions) old new
all_put plan box end emission emissions old mid new at first later contents =
    (end, world_of mid contents, at, first contents, later contents)

-- what is read where there is no first one
abbrev pub none : Sent
none = record { port = 0; packet = 0 }

pub first_out : (plan : Plan) (box end : ℕ) (outputs : List Sent) (old mid new : List (List ℕ)) →
    1 ≤ length outputs → IsEndAt plan end (Port box (get_or outputs 0 none).port) →
    PutsOutThere plan end (get_or outputs 0 none).packet old mid →
    PutsOutAllThere plan box (map emission_of (take (length outputs - 1) (drop 1 outputs))) mid new →
    PutsOutAllThere plan box (map emission_of outputs) old new
first_out plan box end [] old mid new some at first later = absurd (omega arith)
first_out plan box end (sent ∷ outputs) old mid new some at first later =
    let rest : take (length (sent ∷ outputs) - 1) outputs ≡ outputs =
    take_all (length (sent ∷ outputs) - 1) outputs
    (let all : length outputs ≤ suc (length outputs) - 1 = omega arith in all) in
    all_put plan box end (emission_of sent) (map emission_of outputs) old mid new at first
    (subst (λ (l : List Sent). PutsOutAllThere plan box (map emission_of l) mid new) rest later)
