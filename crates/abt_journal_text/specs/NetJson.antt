-- What is written of a net, and where a text ends (docs/JOURNALS.md).
use Rattle.std.specs.Prelude.{ℕ, true, List, [], ◌∷◌, ◌++◌, map, flat_map}
use Rattle.std.specs.Fmt.{decimal}
use Rattle.json.specs.Json.{Json, Items, array, boolean, object, item, no_items, no_members}
use Rattle.json.specs.Print.{print}
use Rattle.json.specs.Token as token
use Rattle.json.specs.Tree.{json_tokens}
use Rattle.abt_text.specs.Text.{Text}
use Rattle.abt_net.specs.Topology.{Topology}
use Rattle.abt_net.specs.declared.conn.Conn.{Conn}
use Rattle.abt_entry.specs.Members.{member_name}
use Rattle.abt_entry.specs.Written.{with_member, with_channel, only, number_json}
use Rattle.abt_entry.specs.declared.member.Member.TheVariants as of

-- a value on a line, without its line feed
abbrev pub line_of : Json → Text
line_of json = print (json_tokens json)

-- these values as the items of an array
abbrev pub items_of : List Json → Items
items_of [] = no_items
items_of (json ∷ more) = item json (items_of more)

abbrev pub numbers_json : List ℕ → Json
numbers_json numbers = array (items_of (map number_json numbers))

-- a connection
abbrev pub conn_json : Conn → Json
conn_json conn =
    object (with_channel conn.vc (with_member of.Path (numbers_json conn.path)
    (with_member of.Delay (number_json conn.delay) (with_member of.Tau (number_json conn.tau) no_members))))

abbrev pub conns_json : List Conn → Json
conns_json conns = array (items_of (map conn_json conns))

-- the ports with their capacities, and the connections
abbrev pub topology_json : Topology → Json
topology_json net =
    object (with_member of.Ports (numbers_json net.capacities) (with_member of.Connections (conns_json net.conns) no_members))

abbrev pub net_json : Topology → Json
net_json net = only of.Net (topology_json net)

-- the end of a text
abbrev pub end_json : Json
end_json = only of.End (boolean true)

-- The tokens of parts of these, as they are written one after the other.
abbrev pub all_tokens : List Json → List token.Token
all_tokens values = flat_map json_tokens values

abbrev pub access_tokens : Conn → List token.Token
access_tokens conn =
    token.key (member_name of.Path) ∷ (json_tokens (numbers_json conn.path)
    ++ token.key (member_name of.Delay) ∷ token.number (decimal conn.delay) ∷ token.key (member_name of.Tau) ∷ token.number (decimal conn.tau) ∷ [])

abbrev pub net_tokens : Topology → List token.Token
net_tokens net =
    token.key (member_name of.Ports) ∷ (json_tokens (numbers_json net.capacities)
    ++ token.key (member_name of.Connections) ∷ json_tokens (conns_json net.conns))
