use Rattle.abt_step.proofs.Read.{same_state}
use Rattle.abt_step.proofs.net_state.state_of.Goals as goal

pub returns : goal.returns
returns c = λ events stands.
    same_state _ _ _ _ _ _ _ _ (c.in_ok-rates_of.ensures events stands) (c.in_ok-held_of.ensures events stands) (c.in_ok-totals_of.ensures events stands)
    (c.in_ok-capacities_of.ensures events stands)
