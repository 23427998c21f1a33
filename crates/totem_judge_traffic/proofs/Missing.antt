-- What is pending, over the traffic of a configuration.
use Rattle.totem_judge_traffic.proofs.Common.{◌≡◌, inl, inr, ℕ, ◌+◌, ◌<◌, List, [], ◌∷◌, ◌++◌, length, slice_get, Some, sym, ◌∙◌, ap, subst, arith, Contains, slice_get_within, Contains-push, Contains-push_cases, Contains-append_left, RingId, MsgId, Log, Regular, Sends, log_of, IsLogAt, IsTrafficOf}
use Rattle.totem_judge_traffic.proofs.Rowing.{before_or_at, one_at}
use Rattle.totem_evs.specs.declared.pending.Pending.{Pending}
use Rattle.totem_judge_traffic.specs.declared.traffic.Sent.{Sent}
use Rattle.totem_judge_traffic.specs.declared.traffic.Traffic.{Traffic}
use Rattle.totem_judge_traffic.specs.LogSets.{Has}
use Rattle.totem_judge_traffic.specs.Pending.{IsPendingIn, IsMissingTo, AddsMissing, AddsPending}

-- where the log is not open, nothing is pending
pub none_pending : (traffic : Traffic) (log q : ℕ) (list : List Pending) → (Has traffic.open log → ⊥) → AddsPending traffic log q list list
none_pending traffic log q list never = record {
  exact = λ run c is at x. (
    λ has. inl has,
    λ h. elim h [ inl has ↦ has | inr (proc, pending) ↦ absurd (never ((is.still_open.exact log q at).1 pending.still_open)) ],
  );
}

module _ (run : List Log) (c : RingId) (traffic : Traffic) (is : IsTrafficOf run c traffic) (log q : ℕ) (at : IsLogAt run log q) (m : MsgId) where
  pending_of : Has traffic.open log → IsMissingTo traffic.sent.items (length traffic.sent.items) log m → IsPendingIn run c q m
  pending_of stands missing =
      let sent = is.sent missing.at missing.sent missing.stands in
      record {
        sent = (sent.proc, sent.at, subst (λ (k : MsgId). Sends (log_of run sent.proc) sent.at k (Regular c)) missing.message sent.sends);
        still_open = (is.still_open.exact log q at).0 stands;
        missing = λ has. missing.missing ((sent.by.exact log q at).1 (rw (sym missing.message) at has));
      }

  missing_of : IsPendingIn run c q m → IsMissingTo traffic.sent.items (length traffic.sent.items) log m
  missing_of pending =
      let has = is.all_sent pending.sent.0 pending.sent.1 m pending.sent.2 in
      record {
        at = has.at;
        sent = has.sent;
        before = slice_get_within traffic.sent.items has.at has.sent has.stands;
        stands = has.stands;
        message = has.message;
        missing = λ by. pending.missing (rw has.message at (((is.sent has.at has.sent has.stands).by.exact log q at).0 by));
      }

pub missing_pending : (traffic : Traffic) (log q : ℕ) (old new : List Pending) → Has traffic.open log → AddsMissing traffic.sent.items (length traffic.sent.items) log q old new → AddsPending traffic log q old new
missing_pending traffic log q old new stands adds = record {
  exact = λ run c is at x. (
    λ has. elim ((adds.exact x).0 has) [ inl old ↦ inl old | inr (proc, missing) ↦ inr (proc, pending_of run c traffic is log q at x.msg stands missing) ],
    λ h. elim h [ inl old ↦ (adds.exact x).1 (inl old) | inr (proc, pending) ↦ (adds.exact x).1 (inr (proc, missing_of run c traffic is log q at x.msg pending)) ],
  );
}

-- ---- steps of the loop

pub missing_none : (sents : List Sent) (log q : ℕ) (list : List Pending) → AddsMissing sents 0 log q list list
missing_none sents log q list = grind arith

before : {sents : List Sent} {n k log : ℕ} {m : MsgId} (missing : IsMissingTo sents n log m) → missing.at < k → IsMissingTo sents k log m
before missing lt = record {
  at = missing.at;
  sent = missing.sent;
  before = lt;
  stands = missing.stands;
  message = missing.message;
  missing = missing.missing;
}

abbrev pending : ℕ → MsgId → Pending
pending q m = record { proc = q; msg = m }

module _ (sents : List Sent) (n log q : ℕ) (s : Sent) (old new : List Pending) (at : slice_get sents n ≡ Some s) where
  same_sent : (m : MsgId) (missing : IsMissingTo sents (n + 1) log m) → missing.at ≡ n → missing.sent ≡ s
  same_sent m missing level = one_at sents n missing.sent s (rw level at missing.stands) at

  same_pending : (x : Pending) → x.proc ≡ q → s.message ≡ x.msg → pending q s.message ≡ x
  same_pending x proc message = ap (λ (p : ℕ). pending p s.message) (sym proc) ∙ ap (pending x.proc) message

  -- the message is pushed
  pub missing_more : (Has s.by log → ⊥) → AddsMissing sents n log q old new → AddsMissing sents (n + 1) log q old (new ++ pending q s.message ∷ [])
  missing_more never adds = record {
    exact = λ x. (
      λ has. elim (Contains-push_cases new (pending q s.message) x has) [
        | inl old ↦ elim ((adds.exact x).0 old) [ inl there ↦ inl there | inr (proc, missing) ↦ inr (proc, before {k = n + 1} missing (omega (arith, missing.before))) ]
        | inr is ↦ inr (ap (λ (y : Pending). y.proc) (sym is), record { at = n; sent = s; before = omega arith; stands = at; message = ap (λ (y : Pending). y.msg) is; missing = never })
      ],
      λ h. elim h [
        | inl there ↦ Contains-append_left new (pending q s.message ∷ []) x ((adds.exact x).1 (inl there))
        | inr (proc, missing) ↦ elim (before_or_at missing.at n missing.before) [
          | inl under ↦ Contains-append_left new (pending q s.message ∷ []) x ((adds.exact x).1 (inr (proc, before {k = n} missing under)))
          | inr level ↦ (
              let e : s.message ≡ x.msg = ap (λ (t : Sent). t.message) (sym (same_sent x.msg missing level)) ∙ missing.message in
              subst (λ (y : Pending). Contains (new ++ pending q s.message ∷ []) y) (same_pending x proc e) (Contains-push new (pending q s.message))
              )
        ]
      ],
    );
  }

  -- the log delivers it
  pub missing_kept : Has s.by log → AddsMissing sents n log q old new → AddsMissing sents (n + 1) log q old new
  missing_kept by adds = record {
    exact = λ x. (
      λ has. elim ((adds.exact x).0 has) [ inl there ↦ inl there | inr (proc, missing) ↦ inr (proc, before {k = n + 1} missing (omega (arith, missing.before))) ],
      λ h. elim h [
        | inl there ↦ (adds.exact x).1 (inl there)
        | inr (proc, missing) ↦ elim (before_or_at missing.at n missing.before) [
          | inl under ↦ (adds.exact x).1 (inr (proc, before {k = n} missing under))
          | inr level ↦ absurd (missing.missing (rw (same_sent x.msg missing level) by))
        ]
      ],
    );
  }
