mod Examples
mod Running
