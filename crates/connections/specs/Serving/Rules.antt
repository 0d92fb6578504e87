-- How a connection that was served keeps its promise.
use Rattle.std.specs.Prelude.{refl, List, ℕ, ℤ}
use Rattle.values.specs.Room.{Room}
use Rattle.serial_port.specs.Call.{Answers}
use Rattle.serial_port.specs.declared.port.Called.{Called}
use Rattle.connections.specs.Serving.{Serves, serves}
use Rattle.connections.specs.declared.connection.Connection.{Connection}

pub port_called : (r : Room) (c : Connection) (bs : List ℕ) (vs : List ℤ) (buffer : List ℕ) (a : Called) (vs' : List ℤ) (buffer' : List ℕ)
    → Answers r vs c.port bs buffer a vs' buffer'
    → Serves r c bs vs buffer (record { connection = record { is_open = c.is_open; port = a.port }; answer = record { consumed = a.consumed; sent = a.sent; fault = a.fault; number = a.number } }) vs' buffer'
port_called r c bs vs buffer a vs' buffer' h = serves refl h

pub ruleset serving = (port_called)
