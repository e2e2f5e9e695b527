-- What is offered first is what follows from no premise.
use Rattle.std.proofs.Common.{◌≡◌, ℕ, ◌⊎◌, inl, inr, List, [], ◌∷◌, map, refl, sym, ap, subst, ◌∙◌}
use Rattle.std.specs.List.{Contains}
use Rattle.std.proofs.lemmas.List.Elements.{All-nil}
use Rattle.fix_engine.specs.Progress.{Progress, found_in}
use Rattle.net_plan.specs.declared.plan.Plan.{Plan}
use Rattle.net_plan.specs.declared.fact.Fact.{Fact}
use Rattle.net_plan.specs.declared.fact.Fact.TheVariants.{Out, State, Abort}
use Rattle.net_plan.specs.declared.fact.Place.TheVariants.{Host}
use Rattle.net_plan.specs.Plan.{Sends}
use Rattle.net_plan.specs.Ends.{IsEndAt}
use Rattle.net_plan.specs.Cells.{IsInRange, cell_of}
use Rattle.net_plan.proofs.EndLemmas.{host_ends}
use Rattle.packet_state.specs.Follows as packet_state
use Rattle.packet_domain.specs.Follows.{Follows}
use Rattle.move_table.specs.Offered.{Offered, Is}
use Rattle.packet_domain.specs.Reasons.{IsSentBy, SendAny, FirstsAny}
use Rattle.move_table.proofs.OfferedLemmas.{offered_as, offered_both}
use Rattle.packet_domain.proofs.PlaceLemmas.{end_settled}

pub sent_given : (plan : Plan) (host packet end : ℕ) (old new : Progress) → IsEndAt plan end (Host host) →
    Sends plan host packet → Offered plan (Is (Out end packet)) old new →
    Offered plan (IsSentBy plan host packet) old new
sent_given plan host packet end old new there sends offered =
    offered_as plan (Is (Out end packet)) (IsSentBy plan host packet) old new
    (λ fact in' is. record { end = end; at_host = there; sends = sends; is = is })
    (λ fact in' sent. sent.is ∙ ap (λ e. Out e packet) (end_settled plan sent.end end (Host host) sent.at_host there))
    offered

module _ (plan : Plan) where
  starts : (fact : Fact) → SendAny plan fact ⊎ FirstsAny plan fact → packet_state.Starts plan fact
  starts fact (inl (host, less, (packet, small, sent))) =
      subst (packet_state.Starts plan) (sym sent.is)
      (record { host = host; at_host = sent.at_host; packet_in_range = small; sends = sent.sends })
  starts fact (inr (box, less, (packet, small, is))) =
      subst (packet_state.Starts plan) (sym is)
      (record { box_in_range = less; packet_in_range = small; answered = refl })

  started : (fact : Fact) → packet_state.Starts plan fact → SendAny plan fact ⊎ FirstsAny plan fact
  started (Out end packet) sent =
      inl (
        sent.host,
        ((host_ends plan end sent.host).0 sent.at_host).0,
        (
          packet,
          sent.packet_in_range,
          record {
            end = end;
            at_host = sent.at_host;
            sends = sent.sends;
            is = refl;
          },
        ),
      )
  started (State box packet mask) first =
      inr (box, first.box_in_range, (packet, first.packet_in_range, ap (State box packet) (sym first.answered)))
  started (Abort box packet) never = absurd never

  no_facts : (facts : List Fact) → [] ≡ map (cell_of plan) facts → facts ≡ []
  no_facts [] e = refl
  no_facts (fact ∷ facts) e = absurd (cc)

  module _ (old mid new : Progress) (first : Offered plan (SendAny plan) old mid)
      (second : Offered plan (FirstsAny plan) mid new) where
    both : Offered plan (λ fact. SendAny plan fact ⊎ FirstsAny plan fact) old new
    both = offered_both plan (SendAny plan) (FirstsAny plan) old mid new first second

    pub all_started : (cell : ℕ) → Follows plan [] cell → Contains (found_in new) cell
    all_started cell follows =
        subst (Contains (found_in new)) (sym follows.cell_is)
        (both.all follows.fact follows.in_range
        (started follows.fact
        (subst (λ (facts : List Fact). packet_state.Follows plan facts follows.fact)
        (no_facts follows.facts follows.premises_are) follows.follows)))

    pub only_started : (cell : ℕ) → Contains (found_in new) cell → Contains (found_in old) cell ⊎ Follows plan [] cell
    only_started cell found =
        elim (both.only cell found) [
          | inl before ↦ inl before
          | inr reason ↦ inr (record {
            facts = [];
            fact = reason.0;
            facts_in_range = All-nil (IsInRange plan);
            in_range = reason.1;
            premises_are = refl;
            cell_is = reason.3;
            follows = starts reason.0 reason.2;
          })
        ]
