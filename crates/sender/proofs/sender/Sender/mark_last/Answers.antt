use Rattle.std.proofs.Common.{rules, ◌≡◌, ℕ, ◌-◌, [], ◌∷◌, cond, sym, ap, subst, ◌∙◌}
use Rattle.places.specs.Place.{number}
use Rattle.sender.specs.History.{Marks}
use Rattle.sender.specs.Marking.{MarksNumbers}
use Rattle.sender.specs.Sender.{Sending, history_of, state_of}
use Rattle.sender.specs.Tail.{IsLastNumber}
use Rattle.sender.proofs.MarkedNumbers.{Laws, marks_named}
use Rattle.sender.proofs.Named.{named_alone}
use Rattle.sender.proofs.Stepping.{as_number}
use Rattle.sender.proofs.sender.Sender.mark_last.Goals as goal

pub returns-clause-marks : goal.returns-clause-marks
returns-clause-marks g c =
    let past = g.H.History.meaning c.self.inside.history in
    let is = g.met.H.History.is_past c.self.inside.history in
    let after = g.H.History.meaning c.mark_number-marked.new.history in
    let next = c.self.inside.next in
    let repair = c.self.inside.repair in
    let repeats = c.self.inside.config.repeats in
    let law = c.history_by_place.ensures in
    let laws : Laws = record { inside = law.inside; ends = law.ends; one = law.one } in
    let last : c.number.result ≡ number (next - 1) = search rules in
    let count : c.from.result ≡ cond c.mark_number-marked.result 1 0 = c.from.ensures ∙ as_number c.mark_number-marked.result in
    let marks : MarksNumbers repeats (c.number.result ∷ []) past c.from.result after =
    subst (λ (x : ℕ × ℕ). MarksNumbers x.0 (c.number.result ∷ []) past x.1 after) (λ i. (c.repeats.ensures.value i, sym count i)) c.mark_number-marked.ensures.marks in
    subst (λ (s : Sending). Marks s.config.repeats (IsLastNumber (state_of s)) (state_of s) c.from.result (history_of next repair after)) c.self.view_is
    (marks_named repeats laws (c.number.result ∷ []) (IsLastNumber (history_of next repair past)) (named_alone c.number.result (number (next - 1)) last) past after c.from.result next repair is marks)

pub returns-clause-stays : goal.returns-clause-stays
returns-clause-stays g c =
    record {
      config = ap (λ (s : Sending). s.config) c.self.view_is;
      capacity = c.mark_number-marked.ensures.marks.capacity ∙ ap (λ (s : Sending). s.past.capacity) c.self.view_is;
      is_past = g.met.H.History.is_past c.mark_number-marked.new.history;
    }
