-- The switch that is opened answers the lines.
use Rattle.std.proofs.Common.{◌∙◌, ◌<◌, All, inl, inr, length, map, refl, subst, ap}
use Rattle.std.proofs.KnownBytes.{Keeps-refl}
use Rattle.abt_live.specs.Ports.{opening_of}
use Rattle.abt_live_files.proofs.switch.switch.Goals as goal

pub returns-in-Err-new_journal-clause-err : goal.returns-in-Err-new_journal-clause-err
returns-in-Err-new_journal-clause-err g c = (
  (
    c.in-Ok.scenario.net,
    record {
      scenario = c.in-Ok.scenario;
      read = c.in-Ok.ensures.ok;
      net_is = refl;
      within = subst (λ ids. All (λ id. id < length c.in-Ok.scenario.net.capacities) ids) c.as_slice-ports.ensures.value c.in_default.ensures.none;
    },
  ),
  Keeps-refl _,
)

pub returns-in_default-open-clause-err : goal.returns-in_default-open-clause-err
returns-in_default-open-clause-err g c = record {
  net = c.in-Ok.scenario.net;
  has = record {
    scenario = c.in-Ok.scenario;
    read = c.in-Ok.ensures.ok;
    net_is = refl;
    within = subst (λ ids. All (λ id. id < length c.in-Ok.scenario.net.capacities) ids) c.as_slice-ports.ensures.value c.in_default.ensures.none;
  };
  part = inl (Keeps-refl _);
}

pub returns-in-Ok-serve_switch-clause-ok : goal.returns-in-Ok-serve_switch-clause-ok
returns-in-Ok-serve_switch-clause-ok g c = record {
  net = c.in-Ok.scenario.net;
  has = record {
    scenario = c.in-Ok.scenario;
    read = c.in-Ok.ensures.ok;
    net_is = refl;
    within = subst (λ ids. All (λ id. id < length c.in-Ok.scenario.net.capacities) ids) c.as_slice-ports.ensures.value c.in_default.ensures.none;
  };
  first = c.in-Ok-open.lines;
  opened = record {
    ports = c.in-Ok-open.ensures.ports ∙ ap (map (opening_of c.in-Ok.scenario.net)) c.as_slice-ports.ensures.value;
    net_is = c.in-Ok-open.ensures.net;
  };
  served = c.in-Ok-serve_switch.ensures.ok;
}

pub returns-clause-err : goal.returns-clause-err
returns-clause-err g c = record {
  net = c.in-Ok.scenario.net;
  has = record {
    scenario = c.in-Ok.scenario;
    read = c.in-Ok.ensures.ok;
    net_is = refl;
    within = subst (λ ids. All (λ id. id < length c.in-Ok.scenario.net.capacities) ids) c.as_slice-ports.ensures.value c.in_default.ensures.none;
  };
  part = inr (
    c.in-Ok-open.lines,
    record {
      ports = c.in-Ok-open.ensures.ports ∙ ap (map (opening_of c.in-Ok.scenario.net)) c.as_slice-ports.ensures.value;
      net_is = c.in-Ok-open.ensures.net;
    },
    c.in-Err-serve_switch.ensures.err,
  );
}
