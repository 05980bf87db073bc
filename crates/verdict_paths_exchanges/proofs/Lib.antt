pub mod EveryPathExchange
