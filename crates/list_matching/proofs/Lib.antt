mod Running
