-- What the fields of a holder are seen as, and what holds of them.
use Rattle.std.specs.Prelude.{ℕ, Option, refl}
use Rattle.std.specs.Coded.{Coded, code_by, coded×, coded_ℕ, coded_option}
use Rattle.ac_base.specs.declared.limit.Limit.{Limit}
use Rattle.ac_base.specs.Guards.{GuardCounts}
use Rattle.ac_base.specs.Limits.{IsLimit, limit_code}
use Rattle.ac_model.specs.Holders.{Holder, IsValidHolder}

module _ {T : Type 0} where
  abbrev pub holder_of : GuardCounts → Limit → Option T → Holder T
  holder_of guards limit element = record {
    number = guards.number;
    limit = limit;
    element = element;
    cursor_guards = guards.cursor_guards;
    element_guards = guards.element_guards;
  }

  abbrev pub holder_code : Coded T → Coded (Holder T)
  holder_code t =
      code_by (ℕ × (Limit × (Option T × (ℕ × ℕ))))
      (coded× coded_ℕ (coded× limit_code (coded× (coded_option t) (coded× coded_ℕ coded_ℕ))))
      (λ h. (h.number, (h.limit, (h.element, (h.cursor_guards, h.element_guards)))))
      (λ p. record { number = p.0; limit = p.1.0; element = p.1.1.0; cursor_guards = p.1.1.1.0; element_guards = p.1.1.1.1 })
      (λ _. refl)

  -- the holder with another number and other guards
  abbrev pub with_guards : Holder T → GuardCounts → Holder T
  with_guards h guards = holder_of guards h.limit h.element

  pub record IsHolder (size : T → ℕ) (h : Holder T) : Type 0 where
    pub valid : IsValidHolder size h
    pub is_limit : IsLimit h.limit
