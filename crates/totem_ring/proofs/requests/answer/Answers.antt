use Rattle.totem_ring.proofs.Common.{◌∙◌, ap, filter, not, filter_map, message_at, holds}
use Rattle.totem_ring.proofs.Asking.{left_are}
use Rattle.totem_ring.proofs.requests.answer.Goals as goal

pub returns : goal.returns
returns c = record {
  messages = c.in_ok-asked.ensures ∙ ap (filter_map (message_at c.args.held.now)) c.as_slice-numbers.ensures.value;
  rtr = c.in_ok-still_asked.ensures ∙ ap (filter (λ n. not (holds c.args.held.now n))) c.as_slice-numbers.ensures.value;
  rules = rw (c.in_ok-still_asked.ensures, c.as_slice-numbers.ensures.value) (left_are (λ n. not (holds c.args.held.now n)) c.args.numbers.now c.as_slice-numbers.ensures.requests);
}
