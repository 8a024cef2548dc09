-- How a host's transport units are written.
use Rattle.std.specs.Prelude.{ℕ, List, [], ◌∷◌}
use Rattle.wire.specs.Writing.{object_bytes}
use Rattle.wire.specs.declared.tpdu.Command.{Command}
use Rattle.wire.specs.declared.tpdu.Command.TheVariants as cmd
use Rattle.wire.specs.TpduTags.{rcv, create_t_c, delete_t_c, d_t_c_reply, new_t_c, t_c_error, t_data_last}

abbrev pub command_tag : {A : Type 0} → Command A → ℕ
command_tag cmd.Create = create_t_c
command_tag cmd.Delete = delete_t_c
command_tag cmd.DeleteReply = d_t_c_reply
command_tag cmd.Receive = rcv
command_tag (cmd.Data bs) = t_data_last
command_tag (cmd.NewConnection c) = new_t_c
command_tag (cmd.Error e) = t_c_error

-- what follows the tag and the length: the connection first
abbrev pub command_body : ℕ → Command (List ℕ) → List ℕ
command_body id cmd.Create = id ∷ []
command_body id cmd.Delete = id ∷ []
command_body id cmd.DeleteReply = id ∷ []
command_body id cmd.Receive = id ∷ []
command_body id (cmd.Data bs) = id ∷ bs
command_body id (cmd.NewConnection c) = id ∷ c ∷ []
command_body id (cmd.Error e) = id ∷ e ∷ []

-- a host's unit on a connection
abbrev pub command_bytes : ℕ → Command (List ℕ) → List ℕ
command_bytes id c = object_bytes (command_tag c) (command_body id c)
